-- `specifiers::flags::take_flags` meets its contract. The loop's invariant: the flags up to i are read, and say what the code's say. Assumes nothing.
use Rattle.std.proofs.Common.{arith}
use Rattle.std.proofs.lemmas.Result.{err_from_is_err_and}
use Rattle.specifiers.proofs.Runs.{flags-none, flags-end, flags_turn}
use Rattle.specifiers.proofs.flags.take_flags.Goals as goal

pub loop-i-init : goal.loop-i-init
loop-i-init c = rw c.no_flags-flags.ensures (flags-none c.args.fmt.now c.args.at)

pub returns-in_err-more : goal.returns-in_err-more
returns-in_err-more c =
    let l = c.loop-i in
    let turn = flags_turn c.args.fmt.now c.args.at l.i l.flags l.invariant (omega arith) _ (c.with_flag.ensures l.invariant.before l.invariant.said) in
    let p = err_from_is_err_and c.from_residual.result c.from_residual.ensures.1 in
    rw (p.1, p.2) (rw c.in_err-more.was at turn)

pub loop-i-preserved : goal.loop-i-preserved
loop-i-preserved c =
    let l = c.loop-i in
    let turn = flags_turn c.args.fmt.now c.args.at l.i l.flags l.invariant (omega arith) _ (c.with_flag.ensures l.invariant.before l.invariant.said) in
    rw (c.in_ok-more.was, c.in-Some.is) at turn

pub returns-in_default : goal.returns-in_default
returns-in_default c =
    let l = c.loop-i in
    let turn = flags_turn c.args.fmt.now c.args.at l.i l.flags l.invariant (omega arith) _ (c.with_flag.ensures l.invariant.before l.invariant.said) in
    rw (c.in_ok-more.was, c.in_default.is) at turn

pub returns-after-loop-i : goal.returns-after-loop-i
returns-after-loop-i c = flags-end c.args.fmt.now c.args.at c.loop-i.i c.loop-i.flags c.loop-i.invariant (omega arith)
