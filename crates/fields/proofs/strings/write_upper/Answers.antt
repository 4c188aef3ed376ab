-- `fields::strings::write_upper` meets its contract. Assumes nothing.
use Rattle.std.proofs.Common.{◌≡◌, map, get_or, sym, ◌∙◌, arith, length}
use lib.ListN.{length-map}
use Rattle.writing.proofs.Laid.{laid_none, copy_step}
use Rattle.fields.specs.Cut.{capital}
use Rattle.fields.proofs.Cased.{upper_at, capital_upper}
use Rattle.fields.proofs.strings.write_upper.Goals as goal

pub loop-i-init : goal.loop-i-init
loop-i-init c = sym (laid_none _)

pub loop-i-preserved : goal.loop-i-preserved
loop-i-preserved c =
    let l = c.loop-i in
    let t = c.args.text.now in
    let n : length (map capital t) ≡ length t = length-map t capital in
    let b : c.to_ascii_uppercase.result ≡ get_or (map capital t) l.i 0 =
    c.to_ascii_uppercase.ensures.value ∙ capital_upper _ ∙ sym (upper_at t l.i (omega arith)) in
    rw (l.invariant, b) (copy_step c.args.out.now (map capital t) l.i (omega arith) (omega arith))
