-- `live::GateList::try_join` meets its contract. Assumes nothing.
use Rattle.std.proofs.Common.{◌≡◌, ℕ, None, sym, ap, ◌∙◌, arith}
use lib.ListN.{length-replicate}
use Rattle.std.specs.Option.{is_some}
use Rattle.rows.proofs.Rows.{AllBytes}
use Rattle.live.specs.Steps.{place_of}
use Rattle.live.proofs.Ends.{length-is}
use Rattle.live.proofs.Changing.{none_of, is-joined}
use Rattle.live.proofs.GateList.try_join.Goals as goal

pub returns : goal.returns
returns c =
    let a = c.args in
    let e : place_of a.self.now a.gate ≡ None = none_of _ (ap is_some (sym c.place_of.ensures) ∙ sym c.is_some.ensures ∙ c.if-is_some.false) in
    let f = sym c.stage.ensures.value ∙ c.in_ok-found.was in
    let bytes : AllBytes a.row.now = λ i. omega (arith, c.type_inv.row i) in
    let is = length-is a.fmt.now a.row.now _ f bytes (length-replicate {A = ℕ} 512 0) c.stage.ensures.staged in
    is-joined a.fmt.now a.self.now a.gate (omega arith) a.row.now e c.present-count.result c.present-count.ensures (omega arith) (omega arith) _ _
    (λ k h. c.enter_lengths.ensures.written k h ∙ is k) (λ k h. rw (← is k) (c.enter_lengths.ensures.raised k h)) _ f
