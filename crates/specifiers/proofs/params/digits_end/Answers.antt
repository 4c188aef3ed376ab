-- `specifiers::params::digits_end` meets its contract. The loop's invariant: the digits from i on end where those from the start do. Assumes nothing.
use Rattle.std.proofs.Common.{ap, length, arith}
use Rattle.specifiers.proofs.Numbers.{end_of_text, no_digit, digit_at}
use Rattle.specifiers.proofs.params.digits_end.Goals as goal

pub returns-then-not-is_ascii_digit : goal.returns-then-not-is_ascii_digit
returns-then-not-is_ascii_digit c =
    let end = no_digit c.args.s.now c.loop-i.i (omega arith) c.if-not-is_ascii_digit.ensures.cases in
    omega (arith, c.loop-i.invariant, ap length end)

pub loop-i-preserved : goal.loop-i-preserved
loop-i-preserved c =
    let digit = c.if-not-is_ascii_digit.ensures.cases in
    (omega arith, omega (arith, c.loop-i.invariant, ap length (digit_at c.args.s.now c.loop-i.i (omega arith) digit.0 digit.1)))

pub returns : goal.returns
returns c = omega (arith, c.loop-i.invariant, ap length (end_of_text c.args.s.now c.loop-i.i (omega arith)))
