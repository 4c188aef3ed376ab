-- Gates place by place: which are present, the largest length, and one taken out. Assumes nothing.
use mathlib.Core.Path.{◌≡◌, refl, ap, ◌∙◌}
use mathlib.Core.Bool.{Bool, true, false, ◌||◌, true≢false}
use mathlib.Core.List.{List, [], ◌∷◌, ◌++◌}
use Prim.Native.Nat.{ℕ, zero, suc, ◌+◌, ◌<◌, max}
use native.Mathlib.Omega.{arith}
use lib.Dec.{eqb}
use lib.ListN.{length, set, length-set}
use lib.Seq.{length-take-le, get_or-take, get_or-set_same, get_or-set_other}
use borrow.Author.Tests.{eq-eqb, ne_eqb}
use Rattle.gates.specs.Gates.{Gate, is_present, without, piece_length, largest}
use Rattle.gates.specs.Same.{no_gate, gate_at}
use Rattle.gates.proofs.Same.{taken_out}

pub present_at : (n : ℕ) (gates : List Gate) (i : ℕ) → i < length gates → (gate_at gates i).number ≡ n → is_present n gates ≡ true
unfolding is_present
present_at n [] i h e = absurd (omega arith)
present_at n (g ∷ gates) zero h e = simp (eq-eqb _ _ e)
present_at n (g ∷ gates) (suc i) h e = ap (λ (t : Bool). eqb g.number n || t) (present_at n gates i (omega arith) e) ∙ or-true (eqb g.number n)
  where
    or-true : (t : Bool) → (t || true) ≡ true
    or-true true = refl
    or-true false = refl

pub absent : (n : ℕ) (gates : List Gate) → ((i : ℕ) → i < length gates → (gate_at gates i).number ≡ n → ⊥) → is_present n gates ≡ false
unfolding is_present
absent n [] h = refl
absent n (g ∷ gates) h = simp (ne_eqb g.number n (h 0 (omega arith)), absent n gates (λ i j. h (suc i) (omega arith)))

pub neither : (t u : Bool) → (t || u) ≡ false → (t ≡ false) × (u ≡ false)
neither false u e = (refl, e)
neither true u e = absurd (true≢false e)

-- Gates without one that is not among them.
pub all_without : (n : ℕ) (gates : List Gate) → is_present n gates ≡ false → without n gates ≡ gates
unfolding is_present without
all_without n [] h = refl
all_without n (g ∷ gates) h =
    let e = neither (eqb g.number n) (is_present n gates) h in simp e.0 (ap (λ (l : List Gate). g ∷ l) (all_without n gates e.1))

pub without-absent : (n : ℕ) (gates : List Gate) → ((i : ℕ) → i < length gates → (gate_at gates i).number ≡ n → ⊥) → without n gates ≡ gates
without-absent n gates h = all_without n gates (absent n gates h)

pub largest-more : (s : List ℕ) (k : ℕ) (gates : List Gate) (g : Gate) → largest s k (gates ++ (g ∷ [])) ≡ max (largest s k gates) (piece_length s g.row k)
unfolding largest
largest-more s k [] g = omega arith
largest-more s k (h ∷ gates) g = ap (max (piece_length s h.row k)) (largest-more s k gates g) ∙ omega arith

pub taken_length : (i : ℕ) (gates : List Gate) → i < length gates → length (taken_out i gates) + 1 ≡ length gates
unfolding taken_out
taken_length i [] h = absurd (omega arith)
taken_length i (g ∷ gates) h =
    let z = gate_at (g ∷ gates) (length gates) in
    ap (λ (n : ℕ). n + 1) (length-take-le (length gates) (set (g ∷ gates) i z) (simp length-set (omega arith))) ∙ omega arith

pub taken_there : (i last : ℕ) (gates : List Gate) → last + 1 ≡ length gates → i < last → gate_at (taken_out i gates) i ≡ gate_at gates last
unfolding taken_out
taken_there i last [] e h = absurd (omega arith)
taken_there i last (g ∷ gates) e h =
    let z = gate_at (g ∷ gates) (length gates) in
    let is : length gates ≡ last = omega arith in
    get_or-take (length gates) (set (g ∷ gates) i z) i no_gate (omega arith) ∙ get_or-set_same (g ∷ gates) i z no_gate (omega arith)
    ∙ ap (gate_at (g ∷ gates)) is

pub taken_else : (i : ℕ) (gates : List Gate) (j : ℕ) → j + 1 < length gates → (j ≡ i → ⊥) → gate_at (taken_out i gates) j ≡ gate_at gates j
unfolding taken_out
taken_else i [] j h n = absurd (omega arith)
taken_else i (g ∷ gates) j h n =
    let z = gate_at (g ∷ gates) (length gates) in
    get_or-take (length gates) (set (g ∷ gates) i z) j no_gate (omega arith) ∙ get_or-set_other (g ∷ gates) i j z no_gate n
