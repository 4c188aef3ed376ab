-- A component that is not composed is the letter that names it. Assumes nothing.
use Rattle.std.specs.Prelude.{None, Some}
use mathlib.Core.Path.{◌≡◌, refl, sym, ap, ◌∙◌}
use mathlib.Core.Bool.{Bool, true, false, ◌&&◌, ◌||◌}
use mathlib.Core.List.{List, [], ◌∷◌}
use Prim.Native.Nat.{ℕ}
use Prim.Native.Char.{Char, code}
use native.Mathlib.Omega.{arith}
use lib.Dec.{eqb}
use borrow.Author.Tests.{eqb-true}
use Rattle.writing.specs.Choose.{choose}
use Rattle.writing.specs.Text.{ascii, has}
use Rattle.writing.proofs.Choose.{both}
use Rattle.kinds.specs.Letters.{lookup, time_letters, time_of}
use Rattle.kinds.specs.declared.letters.TimeFormat.{TimeFormat}
use Rattle.dates.specs.Components.{pattern_of}

-- Java's "common date/time compositions", and what stands for any other letter: itself, with the letter of a sign before it for s and Q; 01: "`h` read as `b`".
abbrev pub composed : List ℕ
composed = ascii "RTrDFc"

abbrev pub own_letter : ℕ → List ℕ
own_letter b = choose (has (ascii "sQ") b) (λ _. code "~" ∷ b ∷ []) (λ _. choose (eqb b (code "h")) (λ _. ascii "b") (λ _. b ∷ []))

-- whether two texts are the same
abbrev same : List ℕ → List ℕ → Bool
same [] [] = true
same [] (b ∷ bs) = false
same (a ∷ xs) [] = false
same (a ∷ xs) (b ∷ bs) = eqb a b && same xs bs

never : false ≡ true → ⊥
never e = let z : ◌≡◌ {A = ℕ} 0 1 = cc in omega arith

same-is : (xs bs : List ℕ) → same xs bs ≡ true → xs ≡ bs
same-is [] [] e = refl
same-is [] (b ∷ bs) e = absurd (never e)
same-is (a ∷ xs) [] e = absurd (never e)
same-is (a ∷ xs) (b ∷ bs) e =
    let p = both (eqb a b) (same xs bs) e in
    let q = eqb-true a b p.0 in
    let r = same-is xs bs p.1 in
    λ i. q i ∷ r i

-- row by row of the letters behind t and T
abbrev owns : Char × TimeFormat → Bool
owns r = has composed (code r.0) || same (pattern_of r.1) (own_letter (code r.0))

abbrev all_own : List (Char × TimeFormat) → Bool
all_own [] = true
all_own (r ∷ rows) = owns r && all_own rows

own-rows : all_own time_letters ≡ true
unfolding has
own-rows = refl

in_table : (rows : List (Char × TimeFormat)) → all_own rows ≡ true → (b : ℕ) (y : TimeFormat) → lookup code Some None rows b ≡ Some y
    → has composed b ≡ false → pattern_of y ≡ own_letter b
in_table [] o b y e h = absurd (let z : ◌≡◌ {A = ℕ} 0 1 = cc in omega arith)
in_table (r ∷ rows) o b y e h = go (eqb b (code r.0)) refl e (λ f. in_table rows (both (owns r) (all_own rows) o).1 b y f h)
  where
    go : (t : Bool) → eqb b (code r.0) ≡ t → choose t (λ _. Some r.1) (λ _. lookup code Some None rows b) ≡ Some y
        → (lookup code Some None rows b ≡ Some y → pattern_of y ≡ own_letter b) → pattern_of y ≡ own_letter b
    go true q f rest =
        let c : r.1 ≡ y = cc in
        let d = eqb-true b (code r.0) q in
        let simple : has composed (code r.0) ≡ false = ap (has composed) (sym d) ∙ h in
        let pattern = same-is (pattern_of r.1) (own_letter (code r.0)) (simp simple at (both (owns r) (all_own rows) o).0) in
        ap pattern_of (sym c) ∙ pattern ∙ ap own_letter (sym d)
    go false q f rest = rest f

pub own_pattern : (b : ℕ) (y : TimeFormat) → time_of b ≡ Some y → has composed b ≡ false → pattern_of y ≡ own_letter b
unfolding time_of
own_pattern b y = in_table time_letters own-rows b y
