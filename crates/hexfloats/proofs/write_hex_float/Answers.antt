-- `hexfloats::write_hex_float` meets its contract. Assumes nothing.
use Rattle.writing.proofs.Chained.{wrote_two, wrote_fill}
use Rattle.hexfloats.proofs.Texts.{hex_made}
use Rattle.hexfloats.proofs.write_hex_float.Goals as goal

pub returns : goal.returns
returns c =
    let d = c.args.out.now in
    let two = wrote_two d _ _ _ _ _ _ c.write_text-a.ensures c.write_digits.ensures in
    let three = wrote_two d _ _ _ _ _ _ two (wrote_fill _ _ _ _ _ c.write_fill.ensures) in
    let e = hex_made c.args.upper c.args.h c.leading_letter.result c.leading_letter.ensures in
    rw (← e) (wrote_two d _ _ _ _ _ _ three c.write_exponent.ensures)
