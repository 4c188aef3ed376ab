-- `fields::strings::cut` meets its contract. Assumes nothing.
use Rattle.std.proofs.Common.{sym, arith}
use lib.Seq.{length-take-le}
use Rattle.fields.proofs.Cuts.{cut_within}
use Rattle.fields.proofs.strings.cut.Goals as goal

pub slice_bounds-result-end : goal.slice_bounds-result-end
slice_bounds-result-end c =
    let t = c.args.text.now in
    sym (length-take-le c.cut_len.result t (omega (arith, c.cut_len.ensures, (cut_within t c.in-Some.p).0)))
