-- `parsing::scanning::next_percent` meets its contract. The loop's invariant: the text from i on ends where the text from the start does. Assumes nothing.
use mathlib.Core.Path.{refl}
use native.Mathlib.Omega.{arith}
use Rattle.parsing.proofs.Runs.{text_ends, text-percent, text-more}
use Rattle.parsing.proofs.scanning.next_percent.Goals as goal

pub loop-i-init : goal.loop-i-init
loop-i-init c = refl

pub returns-then-text-i-eq37 : goal.returns-then-text-i-eq37
returns-then-text-i-eq37 c =
    let l = c.loop-i in
    let s = c.args.text.now in
    omega (arith, l.invariant, text-percent s l.i (omega arith) c.if-text-i-eq37.true)

pub loop-i-preserved : goal.loop-i-preserved
loop-i-preserved c =
    let l = c.loop-i in
    let s = c.args.text.now in
    omega (arith, l.invariant, text-more s l.i (omega arith) c.if-text-i-eq37.false)

pub returns : goal.returns
returns c =
    let l = c.loop-i in
    omega (arith, l.invariant, text_ends c.args.text.now l.i (omega arith))
