-- `parsing::scanning::skip_blocks` meets its contract. The loop's invariant: the text from i on ends where the text from the start does. Assumes nothing.
use mathlib.Core.Path.{sym, ◌∙◌}
use lib.ListN.{drop}
use native.Mathlib.Omega.{arith}
use borrow.Author.Tests.{ltb-false}
use Rattle.parsing.specs.Texts.{text_length}
use Rattle.parsing.proofs.Blocks.{text_past}
use Rattle.parsing.proofs.scanning.skip_blocks.Goals as goal

pub returns-then-is_in_block : goal.returns-then-is_in_block
returns-then-is_in_block c = c.loop-i.invariant.1

pub loop-i-preserved : goal.loop-i-preserved
loop-i-preserved c =
    let l = c.loop-i in
    let s = c.args.text.now in
    let h = ltb-false (text_length (drop l.i s)) 32 (sym c.is_in_block.ensures ∙ c.if-is_in_block.false) in
    (omega arith, (omega arith, omega (arith, l.invariant.1.1, text_past s l.i l.step (omega arith))))

pub returns : goal.returns
returns c = c.loop-i.invariant.1
