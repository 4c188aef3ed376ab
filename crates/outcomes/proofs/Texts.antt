-- The texts of a format's pieces, and where nothing stops them. Assumes nothing.
use Rattle.std.specs.Prelude.{Option, None, Some}
use mathlib.Core.Path.{◌≡◌, refl, ap}
use mathlib.Core.List.{List, [], ◌∷◌}
use Prim.Native.Nat.{ℕ, zero, suc, ◌<◌}
use native.Mathlib.Omega.{arith}
use lib.ListN.{length, get_or}
use Rattle.parsing.specs.Listed.{Placed}
use Rattle.elements.specs.PieceTexts.{piece_text, piece_stop}
use Rattle.outcomes.specs.Printed.{texts_of, stop_at, first_stop}
use Rattle.refusals.specs.declared.Refusal.{Refusal}

module _ (s row : List ℕ) where
  pub texts-length : (ps : List Placed) → length (texts_of s row ps) ≡ length ps
  unfolding texts_of
  texts-length [] = refl
  texts-length (p ∷ ps) = ap suc (texts-length ps)

  pub texts_nth : (ps : List Placed) (i : ℕ) (d : Placed) → i < length ps → get_or (texts_of s row ps) i [] ≡ piece_text s row (get_or ps i d).piece
  unfolding texts_of
  texts_nth [] i d h = absurd (omega arith)
  texts_nth (p ∷ ps) zero d h = refl
  texts_nth (p ∷ ps) (suc i) d h = texts_nth ps i d (omega arith)

  -- nothing stops a piece where nothing stops any
  pub no_stop : (ps : List Placed) (i : ℕ) (d : Placed) → first_stop s row ps ≡ None → i < length ps → piece_stop s row (get_or ps i d).piece ≡ None
  unfolding first_stop
  no_stop [] i d e h = absurd (omega arith)
  no_stop (p ∷ ps) i d e h = go (piece_stop s row p.piece) refl (λ j. no_stop ps j d) i h e
    where
      go : (x : Option Refusal) → piece_stop s row p.piece ≡ x
          → ((j : ℕ) → first_stop s row ps ≡ None → j < length ps → piece_stop s row (get_or ps j d).piece ≡ None)
          → (i : ℕ) → i < length (p ∷ ps) → stop_at x p.from (first_stop s row ps) ≡ None → piece_stop s row (get_or (p ∷ ps) i d).piece ≡ None
      go None q ih zero h e = q
      go None q ih (suc i) h e = ih i e (omega arith)
      go (Some n) q ih i h e = absurd (let z : ◌≡◌ {A = ℕ} 0 1 = cc in omega arith)
