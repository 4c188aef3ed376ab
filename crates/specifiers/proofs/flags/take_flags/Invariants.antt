-- `specifiers::flags::take_flags` meets its contract. The loop's invariant: the flags up to i are read, and say what the code's say. Assumes nothing.
use Prim.Native.Nat.{◌-◌}
use lib.ListN.{length}
use Rattle.specifiers.proofs.Runs.{FlagsTo}
use Rattle.specifiers.proofs.flags.take_flags.Given as goal

abbrev pub invariant-loop-i : goal.invariant-loop-i
invariant-loop-i l = FlagsTo l.fmt l.at l.i l.flags

abbrev pub decreases-loop-i : goal.decreases-loop-i
decreases-loop-i l = length l.fmt - l.i
