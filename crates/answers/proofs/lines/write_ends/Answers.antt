-- `answers::lines::write_ends` meets its contract. Assumes nothing.
use Rattle.std.proofs.Common.{◌≤◌, take, refl, sym, arith}
use Rattle.writing.proofs.Laid.{laid_none}
use Rattle.writing.proofs.Chained.{wrote_two}
use Rattle.numerals.specs.Digits.{decimal}
use Rattle.answers.specs.Lines.{line, end_lines}
use Rattle.answers.proofs.LineTexts.{at_most_ten, line_length, lines_next}
use Rattle.answers.proofs.lines.write_ends.Goals as goal

pub loop-end-init : goal.loop-end-init
unfolding end_lines
loop-end-init c = ((refl, sym (laid_none c.args.out.now)), omega arith)

pub loop-end-preserved : goal.loop-end-preserved
loop-end-preserved c =
    let l = c.loop-end in
    let s = c.args.ends.now in
    let w = c.write_number_line-at in
    let e = c.from.result in
    let grown : w.result ≤ 11 = omega (arith, w.ensures.0, line_length (decimal e), at_most_ten e (omega arith)) in
    let two = wrote_two c.args.out.now (end_lines (take l.end-index s)) (line (decimal e)) l.out _ l.at _ l.invariant.0 w.ensures in
    (rw (lines_next s l.end-index (omega arith)) at (rw c.from.ensures at two), omega (arith, grown))
