-- `fields::strings::write_upper` meets its contract. The invariant: the first i bytes are written in capitals, the rest is as it was. Assumes nothing.
use Rattle.std.proofs.Common.{◌≡◌, map, take}
use Rattle.writing.specs.Laid.{laid}
use Rattle.fields.specs.Cut.{capital}
use Rattle.fields.proofs.strings.write_upper.Given as goal

abbrev pub invariant-loop-i : goal.invariant-loop-i
invariant-loop-i l = l.out ≡ laid l.initial.out (take l.i (map capital l.text))
