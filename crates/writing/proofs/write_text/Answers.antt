-- `writing::write_text` meets its contract. Assumes nothing.
use Rattle.std.proofs.Common.{arith}
use Rattle.writing.proofs.Laid.{copy_step}
use Rattle.writing.proofs.write_text.Goals as goal

pub loop-i-preserved : goal.loop-i-preserved
loop-i-preserved c =
    let l = c.loop-i in
    rw l.invariant (copy_step c.args.out.now c.args.text.now l.i (omega arith) (omega arith))
