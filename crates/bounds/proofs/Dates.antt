-- The text of a component of a date is at most 3,360 bytes long. Assumes nothing.
use mathlib.Core.Bool.{false}
use mathlib.Core.List.{List, [], ◌∷◌}
use Prim.Native.Nat.{ℕ, ◌+◌, ◌*◌, ◌/◌, ◌%◌, ◌^◌, ◌≤◌, ◌<◌}
use Prim.Native.Char.{code}
use native.Mathlib.Omega.{arith}
use lib.Dec.{eqb, ltb}
use lib.IntN.{ℤ}
use lib.ListN.{length, length-append, length-take}
use Rattle.writing.specs.Text.{ascii, has}
use Rattle.writing.proofs.Choose.{by_test}
use Rattle.numerals.specs.Digits.{places}
use Rattle.numerals.proofs.Digits.{length_letters_in, twenty_places}
use Rattle.numerals.specs.Integers.{int_of, is_negative}
use Rattle.kinds.specs.Letters.{lookup}
use Rattle.kinds.specs.declared.letters.TimeFormat.{TimeFormat}
use Rattle.calendar.specs.Dates.{day_number, date_of}
use Rattle.calendar.specs.Moments.{since_year0, ordinal_of, moment_of}
use Rattle.calendar.specs.declared.Moment.{Moment}
use Rattle.calendar.proofs.Only.{year-long, the_only_date}
use Rattle.calendar.proofs.Epoch.{magnitude_within, seconds_range}
use Rattle.dates.specs.Names.{month_names, weekday_names, name_of}
use Rattle.dates.specs.Components.{at_least, number_text, clock12, half, sign_text, numbers, names, name_text, symbol_text, pattern_of, symbols_text}
use Rattle.dates.specs.Components.{component_text}
use Rattle.dates.specs.Steps.{room, room_for}
use Rattle.dates.proofs.Symbols.{room_of_pattern}

-- What holds of every row of a table, and of what is given for no key, holds of what is found.
abbrev Each : {K A : Type 0} → (A → Type 0) → List (K × A) → Type 0
Each Q [] = Unit {0}
Each Q (r ∷ rows) = Q r.1 × Each Q rows

module _ {K A B : Type 0} (Q : A → Type 0) (P : B → Type 0) (key : K → ℕ) (found : A → B) (others : B)
    (one : (a : A) → Q a → P (found a)) (none : P others) where
  looked_up : (rows : List (K × A)) (b : ℕ) → Each Q rows → P (lookup key found others rows b)
  looked_up [] b h = none
  looked_up (r ∷ rows) b h = by_test P (eqb b (key r.0)) _ _ (λ _. one r.1 h.0) (λ _. looked_up rows b h.1)

-- Numbers below 2 to the 64th, names and marks are at most 20 bytes long.
abbrev Brief : List ℕ → Type 0
Brief t = length t ≤ 20

brief_number : (n : ℕ × ℕ) → (n.0 ≤ 20) × (n.1 < 2 ^ 64) → Brief (number_text n.0 n.1)
unfolding number_text
brief_number n h =
    rw (length_letters_in false 10 (at_least n.0 (places 10 n.1)) n.1)
    (by_test (λ (k : ℕ). k ≤ 20) (ltb (places 10 n.1) n.0) _ _ (λ _. h.0) (λ _. twenty_places n.1 h.1))

brief_name : (rows : List (ℕ × List ℕ)) (k : ℕ) → Each Brief rows → Brief (name_of rows k)
unfolding name_of
brief_name rows k h = looked_up Brief Brief (λ b. b) (λ t. t) [] (λ t i. i) (omega arith) rows k h

brief_half : (a p : List ℕ) (hour : ℕ) → Brief a → Brief p → Brief (half a p hour)
unfolding half
brief_half a p hour h k = by_test Brief (ltb hour 12) _ _ (λ _. h) (λ _. k)

brief_sign : (z : ℤ) → Brief (sign_text z)
unfolding sign_text
brief_sign z = by_test Brief (is_negative z) _ _ (λ _. omega arith) (λ _. omega arith)

brief_text : (z : ℤ) (m : Moment) (b : ℕ) → Brief (name_text z m b)
unfolding name_text
brief_text z m b =
    looked_up Brief Brief code (λ t. t) (b ∷ []) (λ t i. i) (omega arith) (names z m) b
    (omega (
      arith,
      brief_half (ascii "am") (ascii "pm") m.hour (omega arith) (omega arith),
      brief_half (ascii "AM") (ascii "PM") m.hour (omega arith) (omega arith),
      brief_sign z,
      brief_name month_names m.month (omega arith),
      brief_name weekday_names m.weekday (omega arith),
      length-take 3 (name_of month_names m.month),
      length-take 3 (name_of weekday_names m.weekday),
    ))

-- The numbers of a moment.
within_clock : (hour : ℕ) → clock12 hour ≤ 12
unfolding clock12
within_clock hour = by_test (λ (n : ℕ). n ≤ 12) (eqb (hour % 12) 0) _ _ (λ _. omega arith) (λ _. omega arith)

within_days : (n : ℕ) → ((date_of n).year ≤ n) × ((date_of n).month ≤ 12) × ((date_of n).day ≤ n + 1) × (ordinal_of n ≤ n + 1)
unfolding day_number ordinal_of
within_days n = let d = the_only_date n in omega (arith, d.numbered, d.valid, year-long 0 (date_of n).year)

module _ (x : ℕ) (below : x < 2 ^ 64) where
  abbrev z : ℤ
  z = int_of 64 x

  brief_symbol : (b : ℕ) → Brief (symbol_text z (moment_of z) b)
  unfolding symbol_text moment_of
  brief_symbol b =
      let t = since_year0 z / 1000000000 in
      let far = magnitude_within x below in
      let range = seconds_range x below in
      let clock = within_clock (t % 86400 / 3600) in
      let days = within_days (t / 86400) in
      looked_up (λ n. (n.0 ≤ 20) × (n.1 < 2 ^ 64)) Brief code (λ n. number_text n.0 n.1) (name_text z (moment_of z) b) brief_number
      (brief_text z (moment_of z) b) (numbers z (moment_of z)) b (omega arith, (omega arith, omega arith))

  -- A letter takes room, so its text is at most 20 times as long.
  brief_symbols : (bs : List ℕ) → length (symbols_text z (moment_of z) bs) ≤ 20 * room_for bs
  unfolding symbols_text room_for
  brief_symbols [] = omega arith
  brief_symbols (b ∷ bs) =
      let some : 1 ≤ room b = by_test (λ (n : ℕ). 1 ≤ n) (has (ascii ":-/ ") b) _ _ (λ _. omega arith) (λ _. omega arith) in
      omega (arith, length-append (symbol_text z (moment_of z) b) (symbols_text z (moment_of z) bs), brief_symbol b, brief_symbols bs)

  pub component-length : (c : TimeFormat) → length (component_text c (int_of 64 x)) ≤ 3360
  unfolding component_text
  component-length c = omega (arith, brief_symbols (pattern_of c), room_of_pattern c)
