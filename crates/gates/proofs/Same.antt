-- What is said of gates does not depend on their order; and a gate taken out, where the last one takes its place. Assumes nothing.
use mathlib.Core.Path.{◌≡◌, refl, ap, ◌∙◌}
use mathlib.Core.Bool.{Bool, true, false, ◌||◌}
use mathlib.Core.List.{List, [], ◌∷◌, ◌++◌}
use Prim.Native.Nat.{ℕ, zero, suc, ◌<◌, max}
use native.Mathlib.Omega.{arith}
use lib.Dec.{eqb}
use lib.ListN.{length, take, set}
use Rattle.writing.specs.Choose.{choose}
use Rattle.gates.specs.Gates.{Gate, is_present, without, largest}
use Rattle.gates.specs.Same.{SameGates, none, next, swapped, through, gate_at}

pub same : (a : List Gate) → SameGates a a
same [] = none
same (g ∷ a) = next g (same a)

pub same_back : {a b : List Gate} → SameGates a b → SameGates b a
same_back none = none
same_back (next g x) = next g (same_back x)
same_back (swapped g h) = swapped h g
same_back (through x y) = through (same_back y) (same_back x)

pub same_length : {a b : List Gate} → SameGates a b → length a ≡ length b
same_length none = refl
same_length (next g x) = ap suc (same_length x)
same_length (swapped g h) = refl
same_length (through x y) = same_length x ∙ same_length y

pub same-present : (n : ℕ) {a b : List Gate} → SameGates a b → is_present n a ≡ is_present n b
unfolding is_present
same-present n none = refl
same-present n (next g x) = ap (λ (t : Bool). eqb g.number n || t) (same-present n x)
same-present n (swapped {a} g h) = either (eqb g.number n) (eqb h.number n) (is_present n a)
  where
    either : (p q r : Bool) → (p || (q || r)) ≡ (q || (p || r))
    either true true r = refl
    either true false r = refl
    either false true r = refl
    either false false r = refl
same-present n (through x y) = same-present n x ∙ same-present n y

pub same-largest : (s : List ℕ) (k : ℕ) {a b : List Gate} → SameGates a b → largest s k a ≡ largest s k b
unfolding largest
same-largest s k none = refl
same-largest s k (next g x) = ap (max _) (same-largest s k x)
same-largest s k (swapped {a} g h) = omega arith
same-largest s k (through x y) = same-largest s k x ∙ same-largest s k y

pub same-without : (n : ℕ) {a b : List Gate} → SameGates a b → SameGates (without n a) (without n b)
unfolding without
same-without n none = none
same-without n (next {a} {b} g x) = go (eqb g.number n) (same-without n x)
  where
    go : (t : Bool) → SameGates (without n a) (without n b)
        → SameGates (choose t (λ _. without n a) (λ _. g ∷ without n a)) (choose t (λ _. without n b) (λ _. g ∷ without n b))
    go true y = y
    go false y = next g y
same-without n (swapped {a} g h) = go (eqb g.number n) (eqb h.number n) (without n a)
  where
    go : (t u : Bool) (l : List Gate)
        → SameGates (choose t (λ _. choose u (λ _. l) (λ _. h ∷ l)) (λ _. g ∷ choose u (λ _. l) (λ _. h ∷ l)))
        (choose u (λ _. choose t (λ _. l) (λ _. g ∷ l)) (λ _. h ∷ choose t (λ _. l) (λ _. g ∷ l)))
    go true true l = same l
    go true false l = same (h ∷ l)
    go false true l = same (g ∷ l)
    go false false l = swapped g h
same-without n (through x y) = through (same-without n x) (same-without n y)

-- One more gate, behind the others or in front.
pub same-behind : (a : List Gate) (g : Gate) → SameGates (a ++ (g ∷ [])) (g ∷ a)
same-behind [] g = same (g ∷ [])
same-behind (h ∷ a) g = through (next h (same-behind a g)) (swapped h g)

-- The gates without the i-th, whose place the last one takes.
unfoldable pub taken_out : ℕ → List Gate → List Gate
taken_out i [] = []
taken_out i (g ∷ gates) = take (length gates) (set (g ∷ gates) i (gate_at (g ∷ gates) (length gates)))

last-first : (g : Gate) (gates : List Gate) → SameGates (g ∷ gates) (gate_at (g ∷ gates) (length gates) ∷ take (length gates) (g ∷ gates))
last-first g [] = same (g ∷ [])
last-first g (h ∷ gates) = through (next g (last-first h gates)) (swapped g (gate_at (h ∷ gates) (length gates)))

pub same_taken : (i : ℕ) (gates : List Gate) → i < length gates → SameGates gates (gate_at gates i ∷ taken_out i gates)
unfolding taken_out
same_taken i [] h = absurd (omega arith)
same_taken zero (g ∷ []) h = same (g ∷ [])
same_taken zero (g ∷ h ∷ gates) i = next g (last-first h gates)
same_taken (suc i) (g ∷ []) h = absurd (omega arith)
same_taken (suc i) (g ∷ h ∷ gates) j =
    through (next g (same_taken i (h ∷ gates) (omega arith))) (swapped g (gate_at (h ∷ gates) i))
