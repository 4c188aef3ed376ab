-- `records::statements::is_same_ends` meets its contract: the ends from i on compare as all do. Assumes nothing.
use Prim.Native.Nat.{◌+◌, ◌*◌, ◌-◌, ◌≤◌}
use mathlib.Core.Path.{◌≡◌}
use lib.ListN.{length, drop}
use Rattle.records.specs.Comparing.{same_list, fours}
use Rattle.records.proofs.statements.is_same_ends.Given as goal

abbrev pub invariant-loop-i : goal.invariant-loop-i
invariant-loop-i l =
    (l.i ≤ length l.ends)
    × (same_list l.ends (fours l.list l.at (length l.ends)) ≡ same_list (drop l.i l.ends) (fours l.list (l.at + 4 * l.i) (length l.ends - l.i)))
