-- `parsing::scanning::is_in_block` meets its contract. The loop's invariant: found says whether a `%` is among the first i bytes. Assumes nothing.
use mathlib.Core.Path.{◌≡◌, sym, ap, ◌∙◌}
use lib.Dec.{ltb}
use lib.ListN.{drop}
use native.Mathlib.Omega.{arith}
use borrow.Author.Tests.{le-ltb}
use Rattle.parsing.specs.Texts.{text_length}
use Rattle.parsing.proofs.Blocks.{block_percent, block_more}
use Rattle.parsing.proofs.scanning.is_in_block.Goals as goal
use Rattle.parsing.proofs.scanning.is_in_block.Goals.{then-text-at-eq37, else-text-at-eq37}

pub loop-i-init : goal.loop-i-init
loop-i-init c = sym (le-ltb (text_length (drop c.args.at c.args.text.now)) 0 (omega arith))

pub loop-i-preserved : goal.loop-i-preserved
loop-i-preserved c =
    let l = c.loop-i in
    let a = c.args in
    elim c.if-text-at-eq37.branch [
      | then-text-at-eq37 w ↦ w.found-is ∙ sym (block_percent a.text.now a.at l.i (omega arith) w.if-text-at-eq37.true)
      | else-text-at-eq37 w ↦ w.found-is ∙ l.invariant ∙ block_more a.text.now a.at l.i (omega arith) w.if-text-at-eq37.false
    ]

pub returns : goal.returns
returns c =
    let a = c.args in
    let e : c.loop-i.i ≡ 32 = omega arith in
    c.loop-i.invariant ∙ ap (ltb (text_length (drop a.at a.text.now))) e
