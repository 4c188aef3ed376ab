-- 02, E4: after every sequence of calls, from an emptied list on, its answers and its lengths are those of the gates present. Assumes nothing.
use Rattle.std.proofs.Common.{◌≡◌, ℕ, List, ◌∷◌, refl, ap, ◌∙◌}
use Rattle.gates.specs.Gates.{Change, answer, present_after, answers}
use Rattle.gates.specs.declared.Changed.{Changed}
use Rattle.live.specs.Promises.{Relation}
use Rattle.live.specs.Histories.{History, begun, called, Claimed}

-- Of any relation: nothing of how a list is stored is used.
module _ {M : Type 0} (R : Relation M) (s : List ℕ) where
  represents : {calls : List Change} {given : List Changed} {m : M} → History R s calls given m → R s (present_after s calls) m
  unfolding present_after
  represents (begun e) = e s
  represents (called {calls = calls} h x) = x.gates_after (present_after s calls) (represents h)

  answered : {calls : List Change} {given : List Changed} {m : M} → History R s calls given m → given ≡ answers s calls
  unfolding answers
  answered (begun e) = refl
  answered (called {calls = calls} {given = given} {c = c} h x) =
      ap (λ (a : Changed). a ∷ given) (x.answers (present_after s calls) (represents h))
      ∙ ap (λ (l : List Changed). answer s (present_after s calls) c ∷ l) (answered h)

  pub every_history : {calls : List Change} {given : List Changed} {m : M} → History R s calls given m → Claimed R s calls given m
  every_history {calls = calls} h = record { all_answers = answered h; all_lengths = λ out l k b. l s (present_after s calls) (represents h) k b }
