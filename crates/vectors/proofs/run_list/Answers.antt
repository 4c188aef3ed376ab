-- `vectors::run_list` meets its contract. Assumes nothing.
use Rattle.std.proofs.Common.{sym, arith}
use Rattle.records.proofs.Counting.{counting_more}
use Rattle.vectors.specs.Right.{is_right}
use Rattle.vectors.proofs.run_list.Goals as goal

pub loop-rec-preserved : goal.loop-rec-preserved
loop-rec-preserved c =
    let s = c.args.list.now in
    let l = c.loop-rec in
    let e = c.in-Some.ensures in
    rw (c.counted-t.ensures, c.is_right.ensures) (counting_more (is_right s) s l.t l.invariant (omega (arith, e)) c.in-Some.rec (sym e.0) e.1)
