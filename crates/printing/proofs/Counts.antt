-- What a pass adds up piece by piece: the text's length, or the first piece that is not printed. Assumes nothing.
use Rattle.std.specs.Prelude.{Option, None, Some, Err, Ok}
use mathlib.Core.Path.{◌≡◌, refl, ap, ◌∙◌}
use mathlib.Core.List.{List, [], ◌∷◌, ◌++◌}
use Prim.Native.Nat.{ℕ, ◌+◌}
use native.Mathlib.Omega.{arith}
use lib.ListN.{length, length-append}
use Rattle.parsing.specs.Listed.{Placed}
use Rattle.elements.specs.Texts.{Shown, Text, Stops, text_of, stop_of}
use Rattle.elements.specs.Sizes.{size_of}
use Rattle.elements.specs.PieceTexts.{shown_piece}
use Rattle.outcomes.specs.Printed.{texts_of, joined, stop_at, first_stop, unless_stopped}
use Rattle.printing.specs.Tallies.{added, counted, tallied, outcome_of, Tally}
use Rattle.refusals.specs.Numbers.{stop}
use Rattle.refusals.specs.declared.Stop.{Stop}

-- A length, unless a piece stops the count.
abbrev pub unless_stop : Option Stop → ℕ → Tally
unless_stop None n = Ok n
unless_stop (Some t) n = Err t

module _ (s row : List ℕ) where
  -- one piece more
  pub tallied-one : (t : Tally) (ps : List Placed) (p : Placed)
      → tallied s row t (ps ++ (p ∷ [])) ≡ counted s row p.piece p.from (tallied s row t ps)
  unfolding tallied
  tallied-one t [] p = refl
  tallied-one t (q ∷ ps) p = tallied-one (counted s row q.piece q.from t) ps p

  -- the first piece that is not printed stays, and up to it the length rises
  tallied_stops : (t : Stop) (ps : List Placed) → tallied s row (Err t) ps ≡ Err t
  unfolding tallied
  tallied_stops t [] = refl
  tallied_stops t (p ∷ ps) = tallied_stops t ps

  tallied-from : (n : ℕ) (ps : List Placed) → tallied s row (Ok n) ps ≡ unless_stop (first_stop s row ps) (n + length (joined (texts_of s row ps)))
  unfolding tallied first_stop texts_of joined
  tallied-from n [] = let e : n ≡ n + 0 = omega arith in ap Ok e
  tallied-from n (p ∷ ps) = go (shown_piece s row p.piece) (λ m. tallied-from m ps)
    where
      go : (x : Shown) → ((m : ℕ) → tallied s row (Ok m) ps ≡ unless_stop (first_stop s row ps) (m + length (joined (texts_of s row ps))))
          → tallied s row (added p.from (size_of x) (Ok n)) ps
          ≡ unless_stop (stop_at (stop_of x) p.from (first_stop s row ps)) (n + length (text_of x ++ joined (texts_of s row ps)))
      go (Text t) ih =
          let e : n + length t + length (joined (texts_of s row ps)) ≡ n + length (t ++ joined (texts_of s row ps)) = simp length-append (omega arith) in
          ih (n + length t) ∙ ap (unless_stop (first_stop s row ps)) e
      go (Stops refusal) ih = tallied_stops (stop refusal p.from) ps

  -- What is added up over some pieces.
  pub tally-is : (ps : List Placed) → tallied s row (Ok 0) ps ≡ unless_stop (first_stop s row ps) (length (joined (texts_of s row ps)))
  tally-is ps =
      let e : 0 + length (joined (texts_of s row ps)) ≡ length (joined (texts_of s row ps)) = omega arith in
      tallied-from 0 ps ∙ ap (unless_stop (first_stop s row ps)) e

  -- read to its end
  pub tally-end : (ps : List Placed) (k : ℕ) → outcome_of (Ok tt) (tallied s row (Ok 0) ps) k
      ≡ unless_stopped (first_stop s row ps) (Ok (record { length = length (joined (texts_of s row ps)); pieces = k }))
  tally-end ps k = ap (λ (t : Tally). outcome_of (Ok tt) t k) (tally-is ps) ∙ go (first_stop s row ps) (length (joined (texts_of s row ps)))
    where
      go : (x : Option Stop) (n : ℕ) → outcome_of (Ok tt) (unless_stop x n) k ≡ unless_stopped x (Ok (record { length = n; pieces = k }))
      go None n = refl
      go (Some t) n = refl
