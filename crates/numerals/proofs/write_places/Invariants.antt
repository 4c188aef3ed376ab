-- `numerals::write_places` meets its contract. The loop's invariant: the letters from place i on are stored, and v gives those before them.
-- Assumes nothing.
use Rattle.numerals.specs.Digits.{digits_in, letters_of}
use Rattle.numerals.proofs.Digits.{digit_byte, digit_next}
use Rattle.writing.proofs.Backwards.{Written}
use Rattle.numerals.proofs.write_places.Given as goal

abbrev pub invariant-loop-i : goal.invariant-loop-i
invariant-loop-i l =
    Written (digit_byte l.upper l.base) (digit_next l.base) l.initial.out (letters_of l.upper (digits_in l.base l.n l.x)) l.out l.i l.v
