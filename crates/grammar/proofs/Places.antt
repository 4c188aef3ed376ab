-- What reading takes at a place, where a run stands there: flags, a number. Assumes nothing.
use Rattle.std.specs.Prelude.{None, Option, Err, Ok}
use mathlib.Core.Path.{◌≡◌, refl, sym, ap, ◌∙◌}
use mathlib.Core.Bool.{Bool, true, false, not, ◌&&◌, ◌||◌}
use mathlib.Core.List.{List, [], ◌∷◌, ◌++◌}
use Prim.Native.Nat.{ℕ, ◌+◌, ◌≤◌, ◌<◌}
use Prim.Native.Char.{code}
use native.Mathlib.Omega.{arith}
use lib.Dec.{eqb}
use lib.ListN.{length, drop}
use lib.Seq.{drop-drop, drop-append_seam}
use borrow.Author.Tests.{ne_eqb, le-leb, lt-leb}
use Rattle.refusals.specs.Limits.{largest_number}
use Rattle.writing.specs.Text.{ascii, has}
use Rattle.writing.proofs.Choose.{both}
use Rattle.numerals.specs.Digits.{number_from, number_of}
use Rattle.specifiers.specs.Params.{is_digit, leading_digits, is_param, number_taken, number_at, param_of, param_at}
use Rattle.specifiers.specs.Flags.{leading_flags, flags_of, first_clash, flags_taken, flags_at}
use Rattle.grammar.specs.Runs.{begins, all, Run, number_in}
use Rattle.grammar.specs.Elements.{IsIndex, is_flag, Clash, Free}
use Rattle.grammar.specs.Pieces.{param_read}
use Rattle.grammar.proofs.Runs.{leading, leading-run, leading-is, flags-leading, digits_of, digits-leading, digits-length}
use Rattle.grammar.proofs.Clashes.{free-flags, clash-flags}
use Rattle.grammar.proofs.Letters.{never}
use Rattle.refusals.specs.declared.Refusal.TheVariants.{LargeNumber}
use Rattle.refusals.specs.declared.Refusal.{Refusal}

-- what stands behind a run
pub drop-behind : (s : List ℕ) (i : ℕ) (x rest : List ℕ) → drop i s ≡ x ++ rest → drop (i + length x) s ≡ rest
drop-behind s i x rest e = sym (drop-drop (length x) i s) ∙ ap (drop (length x)) e ∙ drop-append_seam x rest

-- flags
module _ (s : List ℕ) (at : ℕ) (fs rest : List ℕ) (here : drop at s ≡ fs ++ rest) (run : Run is_flag fs rest) where
  flags-here : leading_flags (drop at s) ≡ fs
  flags-here = flags-leading (drop at s) ∙ ap (leading is_flag) here ∙ leading-is is_flag run

  taken : flags_at s at ≡ flags_taken (first_clash [] fs) fs at
  unfolding flags_at
  taken = ap (λ (bs : List ℕ). flags_taken (first_clash [] bs) bs at) flags-here

  pub flags-read : Free fs → flags_at s at ≡ Ok (flags_of fs, at + length fs)
  flags-read free = taken ∙ ap (λ (x : Option Refusal). flags_taken x fs at) (free-flags fs free)

  pub flags-refused : (f : List ℕ) (b : ℕ) (g : List ℕ) (n : Refusal) → fs ≡ f ++ (b ∷ g) → Free f → Clash f b n → flags_at s at ≡ Err n
  flags-refused f b g n split free c =
      taken ∙ ap (λ (x : Option Refusal). flags_taken x fs at) (ap (first_clash []) split ∙ clash-flags f b g n free c)

-- a number: digits at a place that begin a parameter wherever they are digits
module _ (s : List ℕ) (at : ℕ) (ds rest : List ℕ) (here : drop at s ≡ ds ++ rest) (run : Run is_digit ds rest) where
  pub digits-here : leading_digits (drop at s) ≡ digits_of ds
  digits-here = digits-leading (drop at s) ∙ ap (λ (l : List ℕ). digits_of (leading is_digit l)) here ∙ ap digits_of (leading-is is_digit run)

  pub number_read : number_in ds ≤ largest_number → number_at s at ≡ Ok (number_in ds, at + length ds)
  unfolding number_at number_taken
  number_read h =
      ap (number_taken at) digits-here
      ∙ simp (le-leb (number_in ds) largest_number h) (ap (λ (n : ℕ). Ok (number_in ds, at + n)) (digits-length ds))

  pub number_large : largest_number < number_in ds → number_at s at ≡ Err LargeNumber
  unfolding number_at number_taken
  number_large h = ap (number_taken at) digits-here ∙ simp (lt-leb (number_in ds) largest_number h)

begins_as : (d : ℕ) (ds rest : List ℕ) → all is_digit (d ∷ ds) ≡ true → begins is_digit ((d ∷ ds) ++ rest) ≡ true
unfolding all
begins_as d ds rest a = (both (is_digit d) (all is_digit ds) a).0

module _ (zero : Bool) (s : List ℕ) (at : ℕ) (as-digit : is_param zero (drop at s) ≡ begins is_digit (drop at s)) where
  pub param_read_lem : (ds rest : List ℕ) → drop at s ≡ ds ++ rest → Run is_digit ds rest → number_in ds ≤ largest_number
      → param_at zero s at ≡ Ok (param_read ds, at + length ds)
  unfolding param_at
  param_read_lem [] rest here run h =
      let none = as-digit ∙ ap (begins is_digit) here ∙ run.longest in
      let z : at ≡ at + 0 = omega arith in
      simp none (ap (λ (i : ℕ). Ok (None, i)) z)
  param_read_lem (d ∷ ds) rest here run h =
      let some = as-digit ∙ ap (begins is_digit) here ∙ begins_as d ds rest run.each in
      simp some (ap param_of (number_read s at (d ∷ ds) rest here run h))

  pub param_large : (ds rest : List ℕ) → drop at s ≡ ds ++ rest → Run is_digit ds rest → largest_number < number_in ds → param_at zero s at ≡ Err LargeNumber
  unfolding param_at number_of number_from
  param_large [] rest here run h = absurd (omega arith)
  param_large (d ∷ ds) rest here run h =
      let some = as-digit ∙ ap (begins is_digit) here ∙ begins_as d ds rest run.each in
      simp some (ap param_of (number_large s at (d ∷ ds) rest here run h))

-- A width does not begin with 0, which is a flag; a precision may.
and-true : (b : Bool) → (b && true) ≡ b
and-true true = refl
and-true false = refl

pub width_digit : (l : List ℕ) → begins is_flag l ≡ false → is_param false l ≡ begins is_digit l
unfolding has
width_digit [] h = refl
width_digit (x ∷ l) h = simp (ne_eqb x (code "0") (λ e. never (sym h ∙ ap is_flag e))) (and-true (is_digit x))

pub precision_digit : (l : List ℕ) → is_param true l ≡ begins is_digit l
precision_digit [] = refl
precision_digit (x ∷ l) = and-true (is_digit x)

-- An index begins with a digit that is not 0, and with no byte that is no digit; and so begins every index.
pub index_param : (ds l : List ℕ) → IsIndex ds → is_param false (ds ++ l) ≡ true
unfolding has
index_param [] l i = absurd (never i.first)
index_param (d ∷ ds) l i = simp (i.first, ne_eqb d (code "0") (λ e. never (sym i.not_zero ∙ ap (has (ascii "0")) e)))

pub index-begins : (b : ℕ) (ds l : List ℕ) → is_digit b ≡ false → IsIndex ds → begins (λ c. eqb c b) (ds ++ l) ≡ false
index-begins b [] l n i = absurd (never i.first)
index-begins b (d ∷ ds) l n i = ne_eqb d b (λ e. never (sym n ∙ sym (ap is_digit e) ∙ i.first))

pub index_of_lem : (l : List ℕ) → is_param false l ≡ true → IsIndex (leading is_digit l)
unfolding leading has
index_of_lem [] e = absurd (never e)
index_of_lem (x ∷ l) e =
    let p = both (is_digit x) (false || not (eqb x (code "0"))) e in
    let r = leading-run is_digit (x ∷ l) in
    record { digits = r.each; first = simp p.0; not_zero = simp p.0 (other (eqb x (code "0")) refl p.1) }
  where
    other : (t : Bool) → eqb x (code "0") ≡ t → not t ≡ true → (eqb (code "0") x || false) ≡ false
    other true q n = absurd (never n)
    other false q n = simp (ne_eqb (code "0") x (λ w. never (sym q ∙ eqb_refl w)))
      where
        eqb_refl : code "0" ≡ x → eqb x (code "0") ≡ true
        eqb_refl w = ap (λ (y : ℕ). eqb y (code "0")) (sym w)
