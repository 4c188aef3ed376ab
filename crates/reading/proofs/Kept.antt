-- The bytes that count of a piece: `kept` goes over `++`, keeps nothing of spaces, marks `+` and commas, and every digit as a small letter.
-- Assumes nothing.
use mathlib.Core.Path.{◌≡◌, refl, ap}
use mathlib.Core.Bool.{Bool, true, false, ◌&&◌}
use lib.Dec.{ltb, eqb}
use mathlib.Core.List.{List, [], ◌∷◌, ◌++◌}
use Prim.Native.Nat.{ℕ, zero, suc, ◌+◌, ◌-◌, ◌%◌, ◌≤◌, ◌<◌}
use Prim.Native.Char.{code}
use native.Mathlib.Decide.{dec_lt}
use native.Mathlib.Omega.{arith}
use lib.ListN.{length, replicate}
use borrow.Author.Tests.{lt-ltb, le-ltb, le-leb, lt-leb, ne_eqb}
use Rattle.writing.specs.Choose.{choose}
use Rattle.numerals.specs.Digits.{letter_of, letters_of}
use Rattle.numerals.specs.Grouping.{grouped, comma_after}
use Rattle.numerals.proofs.Digits.{Below}
use Rattle.frames.specs.Frame.{spaces}
use Rattle.reading.specs.Kept.{kept, is_dropped, small}

pub kept_append : (xs ys : List ℕ) → kept (xs ++ ys) ≡ kept xs ++ kept ys
unfolding kept
kept_append [] ys = refl
kept_append (x ∷ xs) ys = one (is_dropped x) (kept_append xs ys)
  where
    one : (t : Bool) → kept (xs ++ ys) ≡ kept xs ++ kept ys
        → choose t (λ _. kept (xs ++ ys)) (λ _. small x ∷ kept (xs ++ ys)) ≡ choose t (λ _. kept xs) (λ _. small x ∷ kept xs) ++ kept ys
    one true e = e
    one false e = ap (λ (l : List ℕ). small x ∷ l) e

pub kept-spaces : (n : ℕ) → kept (spaces n) ≡ []
unfolding kept spaces
kept-spaces zero = refl
kept-spaces (suc n) = kept-spaces n

-- a digit's letter, in either case: not dropped, and the small one
digit_kept : (u : Bool) (d : ℕ) → d < 16 → (is_dropped (letter_of u d) ≡ false) × (small (letter_of u d) ≡ letter_of false d)
unfolding letter_of
digit_kept u d h = elim (dec_lt d 10) [ yes p ↦ number p | no n ↦ letter u (omega arith) ]
  where
    none : (x : ℕ) → code "0" ≤ x → is_dropped x ≡ false
    none x k = simp (ne_eqb x (code " ") (λ e. omega arith), ne_eqb x (code ",") (λ e. omega arith), ne_eqb x (code "+") (λ e. omega arith))

    number : d < 10 → (is_dropped (letter_of u d) ≡ false) × (small (letter_of u d) ≡ letter_of false d)
    number p = simp (lt-ltb d 10 p) (none (code "0" + d) (omega arith), simp (lt-leb (code "A") (code "0" + d) (omega arith)))

    letter : (t : Bool) → 10 ≤ d → (is_dropped (letter_of t d) ≡ false) × (small (letter_of t d) ≡ letter_of false d)
    letter true k =
        let x = code "A" + (d - 10) in
        simp (le-ltb d 10 k) (none x (omega arith), simp (le-leb (code "A") x (omega arith), le-leb x (code "Z") (omega arith)) (omega arith))
    letter false k =
        let x = code "a" + (d - 10) in
        simp (le-ltb d 10 k) (none x (omega arith), simp (le-leb (code "A") x (omega arith), lt-leb x (code "Z") (omega arith)))

pub kept-letters : (u : Bool) (ds : List ℕ) → Below 16 ds → kept (letters_of u ds) ≡ letters_of false ds
unfolding kept letters_of
kept-letters u [] b = refl
kept-letters u (d ∷ ds) b =
    let k = digit_kept u d b.0 in
    simp (k.0, k.1) (ap (λ (l : List ℕ). letter_of false d ∷ l) (kept-letters u ds b.1))

-- zeros of padding are digits
pub zero_letters : (u : Bool) (n : ℕ) → replicate n (code "0") ≡ letters_of u (replicate n 0)
unfolding letters_of letter_of
zero_letters u zero = refl
zero_letters u (suc n) = ap (λ (l : List ℕ). code "0" ∷ l) (zero_letters u n)

-- commas
kept_comma : (r : ℕ) (l : List ℕ) → kept (comma_after r ++ l) ≡ kept l
unfolding kept
kept_comma r l = one (ltb 0 r && eqb (r % 3) 0)
  where
    one : (t : Bool) → kept (choose t (λ _. code "," ∷ []) (λ _. []) ++ l) ≡ kept l
    one true = refl
    one false = refl

pub kept-grouped : (cs : List ℕ) → kept (grouped cs) ≡ kept cs
unfolding grouped kept
kept-grouped [] = refl
kept-grouped (c ∷ cs) = rw (kept_comma (length cs) (grouped cs), kept-grouped cs)
