-- What follows of the places of a record that was read: each lies in the list, behind the one before. Only steps of the code speak of it.
use Rattle.std.specs.Prelude.{ℕ, ◌+◌, ◌≤◌, ◌<◌, Option, Some, None, List, length}
use Rattle.records.specs.Stated.{TextLies}
use Rattle.records.specs.declared.statements.Stated.{Stated}
use Rattle.records.specs.declared.Record.{Record}

abbrev pub EndLies : List ℕ → ℕ → Option ℕ → Type 0
EndLies s at (Some end) = (at + 2 ≤ end) × (end ≤ length s)
EndLies s at None = Unit {0}

abbrev pub ReadLies : List ℕ → ℕ → Option (Stated × ℕ) → Type 0
ReadLies s at (Some (stated, next)) = (at < next) × (next ≤ length s) × (TextLies (length s) stated)
ReadLies s at None = Unit {0}

pub record Lies (n : ℕ) (r : Record) : Type 0 where
  pub format_within : r.format + 2 ≤ r.values
  pub values_in : r.values ≤ r.tag
  pub tag_in : r.tag < r.next
  pub in_list : r.next ≤ n
  pub text_in : TextLies n r.stated

abbrev pub FoundLies : List ℕ → ℕ → Option Record → Type 0
FoundLies s at (Some r) = (at < r.next) × (Lies (length s) r)
FoundLies s at None = Unit {0}
