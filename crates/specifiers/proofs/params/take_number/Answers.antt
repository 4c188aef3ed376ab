-- `specifiers::params::take_number` meets its contract. The loop's invariant: the digits read and those from i on make the whole number.
-- Assumes nothing.
use Rattle.std.proofs.Common.{arith, ◌≡◌}
use Rattle.specifiers.proofs.Numbers.{read_none, end_of_text, no_digit, read_end, read_digit, read_large}
use Rattle.specifiers.proofs.params.take_number.Goals as goal

pub loop-i-init : goal.loop-i-init
loop-i-init c = (omega arith, omega arith, read_none c.args.s.now c.args.at)

pub returns-then-not-is_ascii_digit : goal.returns-then-not-is_ascii_digit
returns-then-not-is_ascii_digit c =
    let l = c.loop-i in
    read_end c.args.s.now l.i c.args.at l.value l.invariant.2 (no_digit c.args.s.now l.i (omega arith) c.if-not-is_ascii_digit.ensures.cases) (omega arith)

pub returns-then-digit-value : goal.returns-then-digit-value
returns-then-digit-value c =
    let l = c.loop-i in
    let digit = c.if-not-is_ascii_digit.ensures.cases in
    read_large c.args.s.now l.i c.args.at l.value l.invariant.2 (omega arith) digit.0 digit.1 (omega arith)

pub loop-i-preserved : goal.loop-i-preserved
loop-i-preserved c =
    let l = c.loop-i in
    let digit = c.if-not-is_ascii_digit.ensures.cases in
    (omega arith, omega arith, rw c.from-digit.ensures (read_digit c.args.s.now l.i c.args.at l.value l.invariant.2 (omega arith) digit.0 digit.1))

pub returns : goal.returns
returns c =
    let l = c.loop-i in
    let e : c.max.result ≡ l.i = omega arith in
    rw e (read_end c.args.s.now l.i c.args.at l.value l.invariant.2 (end_of_text c.args.s.now l.i (omega arith)) (omega arith))
