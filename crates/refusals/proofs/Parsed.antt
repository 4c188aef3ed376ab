-- What was read and the place behind it, each by itself, from two answers that are one. Assumes nothing.
use Rattle.std.proofs.Common.{◌≡◌, ℕ, Result, Ok, Err, ap}
use Rattle.refusals.specs.Numbers.{stop}
use Rattle.refusals.specs.declared.Stop.{Stop}
use Rattle.refusals.specs.declared.Refusal.{Refusal}

pub same_read : {A B E : Type 0} {x y : A} {i j : B} → ◌≡◌ {A = Result (A × B) E} (Ok (x, i)) (Ok (y, j)) → (x ≡ y) × (i ≡ j)
same_read {A} {B} {E} {x} {y} {i} {j} q =
    let p : ◌≡◌ {A = A × B} (x, i) (y, j) = cc in
    (ap (λ (r : A × B). r.0) p, ap (λ (r : A × B). r.1) p)

-- So of two stops.
pub same_stop : {A : Type 0} {m n : Refusal} {p q : ℕ} → ◌≡◌ {A = Result A Stop} (Err (stop m p)) (Err (stop n q)) → (m ≡ n) × (p ≡ q)
same_stop {A} {m} {n} {p} {q} e =
    let t : stop m p ≡ stop n q = cc in
    (ap (λ (s : Stop). s.refusal) t, ap (λ (s : Stop). s.place) t)
