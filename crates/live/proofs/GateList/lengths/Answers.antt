-- `live::GateList::lengths` meets its contract. Assumes nothing.
use Rattle.std.proofs.Common.{◌∙◌, arith}
use Rattle.gates.proofs.Same.{same-largest}
use Rattle.live.proofs.GateList.lengths.Goals as goal

pub returns : goal.returns
returns c = λ s gates r k h. c.loop-k.invariant k (omega arith) ∙ r.holds.longest k h ∙ same-largest s k r.same
