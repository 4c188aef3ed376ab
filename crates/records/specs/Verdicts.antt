-- The records of a list judged one after the other, and counted.
use Rattle.std.specs.Prelude.{ℕ, zero, suc, ◌+◌, ◌≡◌, Bool, true, false, Option, Some, None, List, [], ◌∷◌, ltb, length}
use Rattle.writing.specs.Choose.{choose}
use Rattle.records.specs.Records.{record_at}
use Rattle.records.specs.declared.Record.{Record}
use Rattle.records.specs.declared.Tally.{Tally}

-- The verdict on a record, and on those behind it. A record that breaks the layout does not hold, and ends the list.
abbrev pub verdict_of : (Record → Bool) → (ℕ → List Bool) → Option Record → List Bool
verdict_of holds others (Some r) = holds r ∷ others r.next
verdict_of holds others None = false ∷ []

-- The verdicts on at most so many records, from a place on.
unfoldable pub verdicts_from : (Record → Bool) → ℕ → List ℕ → ℕ → List Bool
verdicts_from holds zero s at = []
verdicts_from holds (suc k) s at =
    choose (ltb at (length s)) (λ _. verdict_of holds (λ next. verdicts_from holds k s next) (record_at s at)) (λ _. [])

-- Of all its records: a record takes at least a byte.
abbrev pub verdicts : (Record → Bool) → List ℕ → List Bool
verdicts holds s = verdicts_from holds (length s) s 0

-- How many hold, and how many do not.
unfoldable pub passes : List Bool → ℕ
passes [] = 0
passes (true ∷ vs) = passes vs + 1
passes (false ∷ vs) = passes vs

unfoldable pub failures : List Bool → ℕ
failures [] = 0
failures (true ∷ vs) = failures vs
failures (false ∷ vs) = failures vs + 1

-- That a tally has counted them.
pub record Counts (vs : List Bool) (t : Tally) : Type 0 where
  pub passing : t.passed ≡ passes vs
  pub failing : t.failed ≡ failures vs

-- One verdict more, and the next record's place.
abbrev pub with_verdict : Bool → ℕ → Tally → Tally
with_verdict true next t = record { at = next; passed = t.passed + 1; failed = t.failed }
with_verdict false next t = record { at = next; passed = t.passed; failed = t.failed + 1 }
