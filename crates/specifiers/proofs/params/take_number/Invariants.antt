-- `specifiers::params::take_number` meets its contract. The loop's invariant: the digits read and those from i on make the whole number.
-- Assumes nothing.
use Prim.Native.Nat.{◌≤◌, max}
use lib.ListN.{length}
use Rattle.refusals.specs.Limits.{largest_number}
use Rattle.specifiers.proofs.Numbers.{ReadTo}
use Rattle.specifiers.proofs.params.take_number.Given as goal

abbrev pub invariant-loop-i : goal.invariant-loop-i
invariant-loop-i l = (l.i ≤ max l.at (length l.s)) × (l.value ≤ largest_number) × ReadTo l.s l.at l.i l.value
