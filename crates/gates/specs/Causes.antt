-- The cause of each refusal of a call on a list. 02, E4. For laws alone.
use Rattle.std.specs.Prelude.{ℕ, ◌≤◌, ◌<◌, ◌≡◌, true, false, List, length}
use Rattle.refusals.specs.Limits.{most_gates}
use Rattle.refusals.specs.declared.Refusal.{Refusal}
use Rattle.refusals.specs.declared.Refusal.TheVariants.{GatePresent, GateAbsent, ListFull}
use Rattle.grammar.specs.Numbers.{table_number}
use Rattle.causes.specs.Calls.{measuring}
use Rattle.causes.specs.Causes.{Cause}
use Rattle.gates.specs.Gates.{Gate, is_present, Change, joins, leaves}

-- Of a call on a list with these gates under the format s, with its refusal and place.
pub data ListCause (s : List ℕ) (gates : List Gate) : Change → Refusal → ℕ → Type 0 where
  -- "19 for a join of a gate present"
  present : {n : ℕ} {row : List ℕ} → is_present n gates ≡ true → ListCause s gates (joins n row) GatePresent 0
  -- "20 for a leave of a gate absent"
  absent : {n : ℕ} → is_present n gates ≡ false → ListCause s gates (leaves n) GateAbsent 0
  -- "21 for a join when 128 are present; 19 comes before 21"
  full : {n : ℕ} {row : List ℕ} → is_present n gates ≡ false → most_gates ≤ length gates → ListCause s gates (joins n row) ListFull 0
  -- "both before measuring's numbers"
  unmeasured : {n : ℕ} {row : List ℕ} {why : Refusal} {place : ℕ} → is_present n gates ≡ false → length gates < most_gates → Cause (measuring s row) why place
      → ListCause s gates (joins n row) why place

-- The cause of a number and a place.
pub data NumberedCause (s : List ℕ) (gates : List Gate) (c : Change) (n p : ℕ) : Type 0 where
  numbered : {why : Refusal} → table_number why ≡ n → ListCause s gates c why p → NumberedCause s gates c n p
