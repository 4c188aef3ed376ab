-- `fields::format_signed_text` meets its contract. Assumes nothing.
use Rattle.writing.proofs.Laid.{wrote_start}
use Rattle.fields.proofs.format_signed_text.Goals as goal

pub returns : goal.returns
returns c =
    let text = wrote_start _ _ _ _ c.write_signed_text-len.ensures.0 in
    rw c.integer_of-n.ensures at (rw text at c.format_string.ensures)
