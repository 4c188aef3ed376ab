-- `live::GateList::new` meets its contract. Assumes nothing.
use Rattle.std.proofs.Common.{refl}
use Rattle.std.proofs.lemmas.List.{get_or-replicate}
use Rattle.live.proofs.Joining.{emptied}
use Rattle.live.proofs.GateList.new.Goals as goal

pub returns : goal.returns
returns c = emptied _ refl (λ k h. get_or-replicate 512 k 0 0 h)
