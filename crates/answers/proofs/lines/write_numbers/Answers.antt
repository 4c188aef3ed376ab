-- `answers::lines::write_numbers` meets its contract: the word, the first number, a space and the line of the second. Assumes nothing.
use Prim.Native.Char.{code}
use Rattle.std.proofs.Common.{◌≤◌, length, arith}
use Rattle.writing.proofs.Chained.{wrote_two, wrote_byte}
use Rattle.numerals.specs.Digits.{decimal}
use Rattle.answers.specs.Lines.{line}
use Rattle.numerals.proofs.Digits.{at_most_twenty}
use Rattle.answers.proofs.LineTexts.{line_length, numbers-line}
use Rattle.answers.proofs.lines.write_numbers.Goals as goal

pub returns : goal.returns
returns c =
    let a = c.args in
    let short-a : length (decimal a.a) ≤ 20 = at_most_twenty a.a (omega arith) in
    let short-b : length (decimal a.b) ≤ 20 = at_most_twenty a.b (omega arith) in
    let w₁ = c.write_text-i.ensures in
    let w₂ = c.write_decimal.ensures.0 in
    let w₃ = c.write_number_line.ensures in
    let two = wrote_two a.out.now a.word.now (decimal a.a) _ _ _ _ w₁ w₂ in
    let three = wrote_byte _ _ _ _ (code " ") two (omega (arith, short-a)) in
    let all = wrote_two a.out.now _ (line (decimal a.b)) _ _ _ _ three w₃ in
    let long = line_length (decimal a.b) in
    (rw numbers-line at all, omega (arith, short-a, short-b, w₁.0, w₂.0, w₃.0))
