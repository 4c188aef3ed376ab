-- `dates::write_symbols` meets its contract. The loop's invariant: the texts of the letters so far are written. Assumes nothing.
use Rattle.std.proofs.Common.{◌≤◌, take}
use Rattle.writing.specs.Writers.{Wrote}
use Rattle.numerals.specs.Integers.{int_of}
use Rattle.dates.specs.Components.{symbols_text}
use Rattle.dates.specs.Steps.{room_for}
use Rattle.dates.proofs.write_symbols.Given as goal

abbrev pub invariant-loop-letter : goal.invariant-loop-letter
invariant-loop-letter l =
    (l.at ≤ room_for (take l.letter-index l.letters))
    × Wrote l.initial.out (symbols_text (int_of 64 l.timestamp) l.m (take l.letter-index l.letters)) l.at l.out
