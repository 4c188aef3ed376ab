-- A list of gates that join and leave, all under the format s. 02, E4.
use Rattle.std.specs.Prelude.{ℕ, max, Bool, false, ◌||◌, List, [], ◌∷◌, leb, eqb, length, get_or, Result, Ok, Err}
use Rattle.refusals.specs.Limits.{most_gates}
use Rattle.writing.specs.Choose.{choose}
use Rattle.outcomes.specs.Printed.{Outcome, texts, measured}
use Rattle.refusals.specs.Numbers.{refusal_number}
use Rattle.refusals.specs.declared.Refusal.{Refusal}
use Rattle.refusals.specs.declared.Refusal.TheVariants.{GatePresent, GateAbsent, ListFull}
use Rattle.refusals.specs.declared.Stop.{Stop}
use Rattle.gates.specs.declared.Changed.{Changed}

-- "Each entry is a gate number, 32 bits unsigned, with its row."
pub record Gate : Type 0 where
  pub number : ℕ
  pub row : List ℕ

-- Whether the gate n is among the gates present.
unfoldable pub is_present : ℕ → List Gate → Bool
is_present n [] = false
is_present n (g ∷ gs) = eqb g.number n || is_present n gs

-- The gates but for the gate n.
unfoldable pub without : ℕ → List Gate → List Gate
without n [] = []
without n (g ∷ gs) = choose (eqb g.number n) (λ _. without n gs) (λ _. g ∷ without n gs)

-- The "printed length" of the k-th piece, counted from 0: that of its text. "those past the format's pieces are 0"
abbrev pub piece_length : List ℕ → List ℕ → ℕ → ℕ
piece_length s row k = length (get_or (texts s row) k [])

-- "For every piece of the format .. the largest printed length among the gates present, 0 when there are none."
unfoldable pub largest : List ℕ → ℕ → List Gate → ℕ
largest s k [] = 0
largest s k (g ∷ gs) = max (piece_length s g.row k) (largest s k gs)

-- "Gates join and leave while we work": a call that changes a list.
pub data Change : Type 0 where
  joins : ℕ → List ℕ → Change
  leaves : ℕ → Change

-- What a call answers: 0 where it is done, else a number and a place.
abbrev pub done : Changed
done = record { number = 0; place = 0 }

abbrev pub refused : Refusal → ℕ → Changed
refused why place = record { number = refusal_number why; place = place }

abbrev pub changed_of : Result (Unit {0}) Stop → Changed
changed_of (Ok u) = done
changed_of (Err t) = refused t.refusal t.place

-- "A row that measuring refuses is not taken in, with measuring's own number and place."
abbrev pub if_measured : Outcome → Changed
if_measured (Ok m) = done
if_measured (Err t) = refused t.refusal t.place

-- "Answers, place 0 ..: 19 for a join of a gate present; 20 for a leave of a gate absent; 21 for a join when 128 are present; 19 comes before 21, both
-- before measuring's numbers."
unfoldable pub answer : List ℕ → List Gate → Change → Changed
answer s gates (joins n row) =
    choose (is_present n gates) (λ _. refused GatePresent 0)
    (λ _. choose (leb most_gates (length gates)) (λ _. refused ListFull 0) (λ _. if_measured (measured s row)))
answer s gates (leaves n) = choose (is_present n gates) (λ _. done) (λ _. refused GateAbsent 0)

-- The gates after a call that is done,
abbrev pub changed : List Gate → Change → List Gate
changed gates (joins n row) = record { number = n; row = row } ∷ gates
changed gates (leaves n) = without n gates

-- and after any call: "list unchanged" where it is refused.
unfoldable pub after : List ℕ → List Gate → Change → List Gate
after s gates c = choose (eqb (answer s gates c).number 0) (λ _. changed gates c) (λ _. gates)

-- "From an empty list changed by these calls alone": the gates present after calls, and what these answer. The last call stands first.
unfoldable pub present_after : List ℕ → List Change → List Gate
present_after s [] = []
present_after s (c ∷ calls) = after s (present_after s calls) c

unfoldable pub answers : List ℕ → List Change → List Changed
answers s [] = []
answers s (c ∷ calls) = answer s (present_after s calls) c ∷ answers s calls
