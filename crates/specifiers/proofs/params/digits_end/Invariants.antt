-- `specifiers::params::digits_end` meets its contract. The loop's invariant: the digits from i on end where those from the start do. Assumes nothing.
use Prim.Native.Nat.{◌+◌, ◌≤◌, max}
use mathlib.Core.Path.{◌≡◌}
use lib.ListN.{length, drop}
use Rattle.specifiers.specs.Params.{leading_digits}
use Rattle.specifiers.proofs.params.digits_end.Given as goal

abbrev pub invariant-loop-i : goal.invariant-loop-i
invariant-loop-i l =
    (l.i ≤ max l.at (length l.s)) × (l.i + length (leading_digits (drop l.i l.s)) ≡ l.at + length (leading_digits (drop l.at l.s)))
