-- Reading piece by piece, over any step: how the pieces and the end go on from a cursor. Assumes nothing.
use Rattle.std.specs.Prelude.{Err, Ok}
use mathlib.Core.Path.{◌≡◌, refl}
use mathlib.Core.List.{List, [], ◌∷◌}
use Prim.Native.Nat.{ℕ, zero, suc, ◌≤◌, ◌<◌}
use native.Mathlib.Omega.{arith}
use lib.Dec.{ltb}
use lib.ListN.{length}
use borrow.Author.Tests.{lt-ltb, le-ltb}
use Rattle.writing.proofs.Choose.{by_test}
use Rattle.parsing.specs.Listed.{Placed, and_rest, placed_from, end_from}
use Rattle.parsing.specs.declared.Piece.{Piece}
use Rattle.parsing.specs.declared.Cursor.{Cursor}
use Rattle.parsing.specs.Pieces.{Step}
use Rattle.refusals.specs.Numbers.{stop}
use Rattle.refusals.specs.declared.Refusal.TheVariants.{ManyPieces}
use Rattle.refusals.specs.declared.Refusal.{Refusal}

module _ (step : Cursor → Step) (size : ℕ) where
  -- inside the format: a piece, a refusal, or one piece too many
  module _ (c : Cursor) (inside : c.at < size) where
    pub placed_found : (n : ℕ) (p : Piece) (m : Cursor) → step c ≡ Ok (p, m)
        → placed_from (suc n) step size c ≡ record { piece = p; from = c.at; to = m.at } ∷ placed_from n step size m
    unfolding placed_from
    placed_found n p m e = simp (lt-ltb c.at size inside, e)

    pub placed-refused : (n : ℕ) (refusal : Refusal) → step c ≡ Err refusal → placed_from (suc n) step size c ≡ []
    unfolding placed_from
    placed-refused n refusal e = simp (lt-ltb c.at size inside, e)

    pub end_found : (n : ℕ) (p : Piece) (m : Cursor) → step c ≡ Ok (p, m) → end_from (suc n) step size c ≡ end_from n step size m
    unfolding end_from
    end_found n p m e = simp (lt-ltb c.at size inside, e)

    pub end_refused : (n : ℕ) (refusal : Refusal) → step c ≡ Err refusal → end_from (suc n) step size c ≡ Err (stop refusal c.at)
    unfolding end_from
    end_refused n refusal e = simp (lt-ltb c.at size inside, e)

    pub end-many : end_from zero step size c ≡ Err (stop ManyPieces c.at)
    unfolding end_from
    end-many = simp (lt-ltb c.at size inside)

  pub placed-none : (c : Cursor) → placed_from zero step size c ≡ []
  unfolding placed_from
  placed-none c = refl

  -- behind the last byte
  pub placed_past : (n : ℕ) (c : Cursor) → size ≤ c.at → placed_from n step size c ≡ []
  unfolding placed_from
  placed_past zero c h = refl
  placed_past (suc n) c h = simp (le-ltb c.at size h)

  pub end_past : (n : ℕ) (c : Cursor) → size ≤ c.at → end_from n step size c ≡ Ok tt
  unfolding end_from
  end_past zero c h = simp (le-ltb c.at size h)
  end_past (suc n) c h = simp (le-ltb c.at size h)

  -- no more pieces than steps
  pub placed-few : (n : ℕ) (c : Cursor) → length (placed_from n step size c) ≤ n
  unfolding placed_from
  placed-few zero c = omega arith
  placed-few (suc n) c =
      by_test (λ (ps : List Placed). length ps ≤ suc n) (ltb c.at size) _ _ (λ _. go (step c) (λ m. placed-few n m)) (λ _. omega arith)
    where
      go : (t : Step) → ((m : Cursor) → length (placed_from n step size m) ≤ n) → length (and_rest t c (λ m. placed_from n step size m)) ≤ suc n
      go (Ok (p, m)) ih = let h = ih m in omega arith
      go (Err refusal) ih = omega arith
