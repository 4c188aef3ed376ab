-- The longest run that a text begins with: it is one, it is the only one, and it is what reading takes. Assumes nothing.
use mathlib.Core.Path.{◌≡◌, refl, ap}
use mathlib.Core.Bool.{Bool, true, false, not}
use mathlib.Core.List.{List, [], ◌∷◌, ◌++◌, map}
use Prim.Native.Nat.{ℕ, suc, ◌-◌}
use Prim.Native.Char.{code}
use lib.Dec.{eqb}
use lib.ListN.{length, drop}
use Rattle.writing.specs.Choose.{choose}
use Rattle.writing.proofs.Choose.{by_test, both}
use Rattle.specifiers.specs.Params.{is_digit, leading_digits}
use Rattle.specifiers.specs.Flags.{leading_flags}
use Rattle.parsing.specs.Texts.{text_length}
use Rattle.grammar.specs.Runs.{begins, all, Run}
use Rattle.grammar.specs.Elements.{is_flag}

unfoldable pub leading : (ℕ → Bool) → List ℕ → List ℕ
leading test [] = []
leading test (b ∷ bs) = choose (test b) (λ _. b ∷ leading test bs) (λ _. [])

module _ (test : ℕ → Bool) where
  pub leading-run : (l : List ℕ) → Run test (leading test l) (drop (length (leading test l)) l)
  unfolding leading all
  leading-run [] = record { each = refl; longest = refl }
  leading-run (b ∷ bs) =
      by_test (λ (x : List ℕ). Run test x (drop (length x) (b ∷ bs))) (test b) _ _
      (λ t. let h = leading-run bs in record { each = simp (t, h.each); longest = h.longest }) (λ f. record { each = refl; longest = f })

  pub leading_split : (l : List ℕ) → l ≡ leading test l ++ drop (length (leading test l)) l
  unfolding leading
  leading_split [] = refl
  leading_split (b ∷ bs) =
      by_test (λ (x : List ℕ). b ∷ bs ≡ x ++ drop (length x) (b ∷ bs)) (test b) _ _ (λ _. ap (λ (x : List ℕ). b ∷ x) (leading_split bs)) (λ _. refl)

  -- what does not begin with one more
  none-leading : (l : List ℕ) → begins test l ≡ false → leading test l ≡ []
  unfolding leading
  none-leading [] h = refl
  none-leading (b ∷ bs) h = simp h

  leading-all : (run rest : List ℕ) → all test run ≡ true → begins test rest ≡ false → leading test (run ++ rest) ≡ run
  unfolding leading all
  leading-all [] rest a h = none-leading rest h
  leading-all (b ∷ run) rest a h =
      let p = both (test b) (all test run) a in
      simp p.0 (ap (λ (x : List ℕ). b ∷ x) (leading-all run rest p.1 h))

  pub leading-is : {run rest : List ℕ} → Run test run rest → leading test (run ++ rest) ≡ run
  leading-is {run} {rest} h = leading-all run rest h.each h.longest

-- what reading takes
pub flags-leading : (l : List ℕ) → leading_flags l ≡ leading is_flag l
unfolding leading leading_flags
flags-leading [] = refl
flags-leading (b ∷ bs) = ap (λ (x : List ℕ). choose (is_flag b) (λ _. b ∷ x) (λ _. [])) (flags-leading bs)

abbrev pub digits_of : List ℕ → List ℕ
digits_of ds = map (λ d. d - code "0") ds

pub digits-leading : (l : List ℕ) → leading_digits l ≡ digits_of (leading is_digit l)
unfolding leading leading_digits
digits-leading [] = refl
digits-leading (b ∷ bs) =
    by_test (λ (x : List ℕ). choose (is_digit b) (λ _. (b - code "0") ∷ leading_digits bs) (λ _. []) ≡ digits_of x) (is_digit b) _ _
    (λ t. simp t (ap (λ (x : List ℕ). (b - code "0") ∷ x) (digits-leading bs))) (λ f. simp f)

abbrev pub not_percent : ℕ → Bool
not_percent b = not (eqb b (code "%"))

pub text-leading : (l : List ℕ) → text_length l ≡ length (leading not_percent l)
unfolding leading text_length
text-leading [] = refl
text-leading (b ∷ bs) = go (eqb b (code "%")) (text-leading bs)
  where
    go : (t : Bool) → text_length bs ≡ length (leading not_percent bs)
        → choose t (λ _. 0) (λ _. suc (text_length bs)) ≡ length (choose (not t) (λ _. b ∷ leading not_percent bs) (λ _. []))
    go true e = refl
    go false e = ap suc e

pub digits-length : (ds : List ℕ) → length (digits_of ds) ≡ length ds
digits-length [] = refl
digits-length (d ∷ ds) = ap suc (digits-length ds)
