-- `numerals::write_places` meets its contract. The loop's invariant: the letters from place i on are stored, and v gives those before them.
-- Assumes nothing.
use Rattle.std.proofs.Common.{◌/◌, sym, refl, arith}
use Rattle.numerals.specs.Digits.{digits_in, letters_of}
use Rattle.numerals.proofs.Digits.{digit_byte, digit_next, digits_right, length_letters_in}
use Rattle.writing.proofs.Backwards.{written_none, written_turn, written_all}
use Rattle.numerals.proofs.write_places.Goals as goal

pub loop-i-init : goal.loop-i-init
loop-i-init c =
    let a = c.args in
    let text = letters_of a.upper (digits_in a.base a.n a.x) in
    written_none (digit_byte a.upper a.base) (digit_next a.base) a.out.now text a.n a.x
    (digits_right a.upper a.base a.n a.x)

pub loop-i-preserved : goal.loop-i-preserved
loop-i-preserved c =
    let l = c.loop-i in
    let a = c.args in
    let text = letters_of a.upper (digits_in a.base a.n a.x) in
    written_turn (digit_byte a.upper a.base) (digit_next a.base) a.out.now text l.out l.i l.v (l.v / a.base)
    c.digit_letter.result (omega arith) (omega arith) (sym c.digit_letter.ensures) refl l.invariant

pub returns : goal.returns
returns c =
    let l = c.loop-i in
    let a = c.args in
    let text = letters_of a.upper (digits_in a.base a.n a.x) in (
      sym (length_letters_in a.upper a.base a.n a.x),
      written_all (digit_byte a.upper a.base) (digit_next a.base) a.out.now text l.out l.i l.v (omega arith) l.invariant,
    )
