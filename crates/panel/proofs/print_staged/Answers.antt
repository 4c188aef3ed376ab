-- `panel::print_staged` meets its contract. Assumes nothing.
use Rattle.std.specs.Prelude.{Ok}
use Prim.Native.Nat.{◌/◌}
use mathlib.Core.Path.{◌≡◌, sym, ap, ◌∙◌}
use lib.ListN.{length}
use Rattle.outcomes.specs.Printed.{if_room, printed}
use Rattle.outcomes.proofs.Accepted.{fitted}
use Rattle.panel.proofs.Slots.{holds}
use borrow.Author.Rules.{rules}
use Rattle.panel.proofs.print_staged.Goals as goal

pub print_accepted-requires-clause-holds : goal.print_accepted-requires-clause-holds
unfolding printed
print_accepted-requires-clause-holds c =
    let a = c.args in
    let room = length a.out.now in
    let slots = length a.ends.now / 4 in
    let q : printed a.fmt.now a.row.now room slots ≡ Ok c.in_ok-found.found =
    sym (c.fit.ensures ∙ ap (if_room room slots) c.stage-staged.ensures.value) ∙ c.in_ok-found.was in
    holds a.fmt.now a.row.now _ _ _ (fitted a.fmt.now a.row.now _ _ _ q) _ _ _ _ c.stage-staged.ensures.staged (search rules) (search rules)
