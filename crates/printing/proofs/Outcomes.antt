-- What a pass answers is what checking and measuring promise. Assumes nothing.
use Rattle.std.specs.Prelude.{Err, Ok}
use mathlib.Core.Path.{◌≡◌, refl}
use mathlib.Core.Bool.{Bool, true}
use mathlib.Core.List.{List}
use Prim.Native.Nat.{ℕ}
use lib.ListN.{length}
use Rattle.parsing.specs.Check.{largest_of, checked_end}
use Rattle.parsing.specs.Listed.{Placed, placed, ended, Ended}
use Rattle.rows.specs.Row.{kinds_of}
use Rattle.outcomes.specs.Printed.{texts, printed_text, measured_end}
use Rattle.printing.specs.Tallies.{tallied, outcome_of}
use Rattle.printing.specs.Passes.{checked_of, checked_by, Walk}
use Rattle.printing.specs.declared.passes.Walked.{Walked}
use Rattle.printing.proofs.Counts.{tally-end}

-- by where reading ended
checked_by_lem : (x : Ended) (ps : List Placed) → checked_of x (length ps) (largest_of ps) ≡ checked_end x ps
checked_by_lem (Ok end) ps = refl
checked_by_lem (Err t) ps = refl

measured_by : (s row : List ℕ) (x : Ended) → let ps = placed s (kinds_of row) in
    outcome_of x (tallied s row (Ok 0) ps) (length ps) ≡ measured_end s row x
unfolding measured_end printed_text texts
measured_by s row (Ok end) = tally-end s row (placed s (kinds_of row)) (length (placed s (kinds_of row)))
measured_by s row (Err t) = refl

module _ (s row ks : List ℕ) (w : Walked) where
  pub walk_checked : (prints : Bool) → Walk s row ks prints w → checked_by w ≡ checked_end (ended s ks) (placed s ks)
  walk_checked prints h = rw (h.end, h.pieces, h.largest) (checked_by_lem (ended s ks) (placed s ks))

  pub walk_measured : Walk s row ks true w → ks ≡ kinds_of row → outcome_of w.end w.tally w.pieces ≡ measured_end s row (ended s (kinds_of row))
  walk_measured h kinds = rw (h.end, h.tally, h.pieces, kinds) (measured_by s row (ended s (kinds_of row)))
