-- `live::GateList::try_leave` meets its contract. Assumes nothing.
use Rattle.std.proofs.Common.{◌-◌, refl, sym, ◌∙◌, arith}
use Rattle.live.proofs.Leaving.{Left}
use Rattle.live.proofs.Changing.{is_left}
use Rattle.live.proofs.GateList.try_leave.Goals as goal

pub returns : goal.returns
returns c =
    let a = c.args in
    let last = c.present-last.result - 1 in
    let w : Left a.self.now c.in-Some.place last _ =
    record {
      less = refl;
      numbers = refl;
      kept = c.take_out.ensures.kept;
      moved = c.take_out.ensures.moved;
      sizes = (omega arith, omega arith);
      lower = c.take_out.ensures.lower;
    } in
    λ s. is_left s a.self.now a.gate (omega arith) c.in-Some.place (sym c.place_of.ensures ∙ c.in-Some.is) last (omega (arith, c.present-last.ensures)) _ w
