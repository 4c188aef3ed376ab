-- `numerals::integers::low_bits` meets its contract: a shift of 64 or more would lose the bit, so that such a width leaves x as it is. Assumes nothing.
use Rattle.std.proofs.Common.{◌^◌, ◌<◌, sym, lt_of_lt_of_le, mod-eq_of_lt, arith, pow_mono}
use Rattle.numerals.proofs.integers.low_bits.Goals as goal

pub returns-then-width-ge64 : goal.returns-then-width-ge64
returns-then-width-ge64 c =
    let a = c.args in
    let h : a.x < 2 ^ 64 = omega arith in
    sym (mod-eq_of_lt (lt_of_lt_of_le h (pow_mono c.if-width-ge64.true)))
