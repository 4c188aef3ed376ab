-- What a call of printing answered and left in the slices that it was lent, compared with what a record states. Only a step of the code speaks of it.
use Rattle.std.specs.Prelude.{ℕ, ◌≤◌, Bool, List, take, Ok, Err}
use Rattle.outcomes.specs.Printed.{Outcome}
use Rattle.refusals.specs.Numbers.{refusal_number}
use Rattle.records.specs.Comparing.{states_refused, states_printed}
use Rattle.records.specs.declared.statements.Stated.{Stated}

abbrev pub states_left : List ℕ → Stated → List ℕ → List ℕ → Outcome → Bool
states_left s stated out ends (Ok m) = states_printed s stated m.length m.pieces (take m.length out) (take m.pieces ends)
states_left s stated out ends (Err t) = states_refused stated (refusal_number t.refusal) t.place

-- That what was accepted is no longer than the output, with no more pieces than ends.
abbrev pub InRoom : Outcome → ℕ → ℕ → Type 0
InRoom (Ok m) room slots = (m.length ≤ room) × (m.pieces ≤ slots)
InRoom (Err t) room slots = Unit {0}
