-- `printing::print` meets its contract. Assumes nothing.
use Rattle.std.proofs.Common.{length, sym, ap, subst, ◌∙◌, arith}
use Rattle.outcomes.specs.Printed.{Outcome, texts, printed_text, ends_from, if_room, printed, written}
use Rattle.outcomes.specs.Demand.{Demanded}
use Rattle.outcomes.proofs.Accepted.{fitted}
use Rattle.outcomes.proofs.Demand.{demand}
use Rattle.printing.proofs.Staged.{staged_text, staged_ends}
use Rattle.printing.proofs.print.Goals as goal

pub returns : goal.returns
unfolding printed
returns c =
    let a = c.args in
    let s = a.fmt.now in
    let row = a.row.now in
    let answered = c.fit.ensures ∙ ap (if_room (length a.out.now) (length a.ends.now)) c.measure-found.ensures in
    let k = fitted s row (length a.out.now) (length a.ends.now) _ (sym answered ∙ c.in_ok-fit.was) in
    let v = c.stage in
    let is_ok = v.ensures.value ∙ k.answer in
    let text = staged_text s row k.answer v.ensures.staged (omega (arith, k.accepts.total, k.bytes)) in
    let slots =
    staged_ends s row k.answer v.ensures.staged (omega (arith, k.accepts.pieces, k.slots_enough)) (omega (arith, k.accepts.total, k.wide)) in
    let d = demand s row _ _ k.accepts a.out.now a.ends.now _ _ text slots (λ i. omega (arith, c.type_inv.row i)) in
    record {
      value = is_ok ∙ sym c.in_ok-fit.was ∙ answered;
      out_after = text ∙ ap (λ (o : Outcome). written o a.out.now (printed_text s row)) (sym is_ok);
      ends_after = slots ∙ ap (λ (o : Outcome). written o a.ends.now (ends_from 0 (texts s row))) (sym is_ok);
      demanded = subst (λ (o : Outcome). Demanded s row o v.new.out v.new.ends) (sym is_ok) d;
    }
