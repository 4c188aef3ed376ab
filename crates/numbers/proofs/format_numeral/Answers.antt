-- `numbers::format_numeral` meets its contract. Assumes nothing.
use Rattle.numbers.proofs.Numerals.{numeral-text}
use Rattle.numbers.proofs.format_numeral.Goals as goal

pub returns : goal.returns
returns c =
    let a = c.args in
    rw (numeral-text a.e a.radix a.kind a.value) at (rw c.numeral_of.ensures at c.put_numeral.ensures)
