-- `answers::write_printed` meets its contract. Assumes nothing.
use mathlib.Core.Path.{◌≡◌, sym, ap, ◌∙◌}
use lib.ListN.{length, replicate}
use lib.Seq.{length-take-le}
use native.Mathlib.Omega.{arith}
use Rattle.writing.specs.Laid.{laid}
use Rattle.outcomes.specs.Printed.{Outcome, texts, printed_text, ends_from, written}
use Rattle.answers.specs.Answers.{room, slots}
use Rattle.answers.proofs.Printed.{fits, accepted_answer}
use borrow.Author.Rules.{rules}
use Rattle.answers.proofs.write_printed.Goals as goal

pub slice_bounds-ends-end : goal.slice_bounds-ends-end
slice_bounds-ends-end c =
    let f = fits _ _ _ (sym c.print.ensures.value ∙ c.in-Ok.is) in
    let whole : length c.print.new.ends ≡ slots = search rules in
    omega (arith, whole, f.slots_enough)

pub slice_bounds-write_accepted-end-in-Ok : goal.slice_bounds-write_accepted-end-in-Ok
slice_bounds-write_accepted-end-in-Ok c =
    let f = fits _ _ _ (sym c.print.ensures.value ∙ c.in-Ok.is) in
    let whole : length c.print.new.ends ≡ slots = search rules in
    sym (length-take-le _ _ (omega (arith, whole, f.slots_enough)))

pub returns-in-Ok : goal.returns-in-Ok
returns-in-Ok c =
    let a = c.args in
    let told = c.in-Ok.is in
    let left = c.print.ensures in
    let ok = sym left.value ∙ told in
    let text = left.out_after ∙ ap (λ (o : Outcome). written o (replicate room 0) (printed_text a.fmt.now a.row.now)) told in
    let ends = left.ends_after ∙ ap (λ (o : Outcome). written o (replicate slots 0) (ends_from 0 (texts a.fmt.now a.row.now))) told in
    let e = accepted_answer a.fmt.now a.row.now _ ok (replicate room 0) (replicate slots 0) _ _ text ends in
    (c.write_accepted.ensures.0 ∙ ap length e, c.write_accepted.ensures.1 ∙ ap (laid a.out.now) e)
