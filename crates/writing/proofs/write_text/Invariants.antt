-- `writing::write_text` meets its contract. The loop's invariant: the first i bytes are copied, and the rest is as it was. Assumes nothing.
use mathlib.Core.Path.{◌≡◌}
use lib.ListN.{take}
use Rattle.writing.specs.Laid.{laid}
use Rattle.writing.proofs.write_text.Given as goal

abbrev pub invariant-loop-i : goal.invariant-loop-i
invariant-loop-i l = l.out ≡ laid l.initial.out (take l.i l.text)
