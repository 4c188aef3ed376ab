-- What was counted, and what is left, make the whole.
use Rattle.std.proofs.Common.{◌-◌, length}
use Rattle.records.proofs.Counting.{Counting}
use Rattle.vectors.specs.Right.{is_right}
use Rattle.vectors.proofs.run_list.Given as goal

abbrev pub invariant-loop-rec : goal.invariant-loop-rec
invariant-loop-rec l = Counting (is_right l.list) l.list l.t

abbrev pub decreases-loop-rec : goal.decreases-loop-rec
decreases-loop-rec l = length l.list - l.t.at
