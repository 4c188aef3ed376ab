-- `printing::passes::walk` meets its contract. The invariant: `Laying`, of the pieces so far; its measure is what is left of the format. Assumes nothing.
use Prim.Native.Nat.{◌-◌}
use lib.ListN.{length}
use Rattle.printing.proofs.Laying.{Laying}
use Rattle.printing.proofs.passes.walk.Given as goal

abbrev pub invariant-loop-c : goal.invariant-loop-c
invariant-loop-c l =
    Laying l.fmt l.row l.kinds l.prints l.initial.out l.initial.ends l.pieces l.c l.tally l.largest l.out l.ends

abbrev pub decreases-loop-c : goal.decreases-loop-c
decreases-loop-c l = length l.fmt - l.c.at
