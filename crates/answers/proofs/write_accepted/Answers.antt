-- `answers::write_accepted` meets its contract: its three texts stand one behind the other. Assumes nothing.
use Rattle.std.proofs.Common.{◌++◌, length}
use Rattle.writing.proofs.Chained.{wrote_two}
use Rattle.writing.specs.Text.{ascii}
use Rattle.answers.specs.Lines.{line, numbers_line, end_lines}
use Rattle.answers.proofs.write_accepted.Goals as goal

pub returns : goal.returns
returns c =
    let a = c.args in
    let text = a.text.now in
    let ends = a.ends.now in
    let numbers = numbers_line (ascii "ok ") (length text) (length ends) in
    let two = wrote_two a.out.now numbers (line text) _ _ _ _ c.write_numbers-i.ensures.0 c.write_line.ensures in
    wrote_two a.out.now (numbers ++ line text) (end_lines ends) _ _ _ _ two c.write_ends.ensures.0
