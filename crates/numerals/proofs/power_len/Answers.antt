-- `numerals::power_len` meets its contract: the highest set bit says how many digits there are. Assumes nothing.
use Rattle.std.proofs.Common.{◌^◌, sym, pos_of_ne-zero, arith, pow_pos}
use Rattle.numerals.proofs.Digits.{places-small, power_length}
use Rattle.numerals.proofs.power_len.Goals as goal

pub returns-then-x-eq0 : goal.returns-then-x-eq0
returns-then-x-eq0 c =
    let a = c.args in
    sym (places-small (2 ^ a.shift) a.x (omega (arith, pow_pos a.shift)))

pub returns : goal.returns
returns c =
    let a = c.args in
    power_length a.shift a.x (omega arith) (pos_of_ne-zero c.if-x-eq0.false) (omega arith)
