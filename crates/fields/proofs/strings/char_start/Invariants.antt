-- `fields::strings::char_start` meets its contract. The loop's invariant: the cut falls back from below i to where it falls back from n. Assumes nothing.
use Rattle.std.proofs.Common.{◌≡◌, ◌-◌}
use Rattle.fields.specs.Cut.{back_to}
use Rattle.fields.proofs.strings.char_start.Given as goal

abbrev pub invariant-loop-i : goal.invariant-loop-i
invariant-loop-i l = back_to (l.i - 1) l.s ≡ back_to l.n l.s
