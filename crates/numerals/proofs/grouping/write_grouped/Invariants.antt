-- `numerals::grouping::write_grouped` meets its contract. The invariant: the bytes from place i on are stored, and v with the digits since the last comma
-- gives those before them. Assumes nothing.
use Rattle.std.proofs.Common.{◌≤◌}
use Rattle.numerals.specs.Digits.{decimal}
use Rattle.numerals.specs.Grouping.{grouped}
use Rattle.numerals.proofs.Commas.{group_byte, group_next}
use Rattle.writing.proofs.Backwards.{Written}
use Rattle.numerals.proofs.grouping.write_grouped.Given as goal

abbrev pub invariant-loop-i : goal.invariant-loop-i
invariant-loop-i l =
    (l.run ≤ 3) × Written group_byte group_next l.initial.out (grouped (decimal l.x)) l.out l.i (l.v, l.run)
