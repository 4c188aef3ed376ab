-- The calls that 01 speaks of, and the refusals that the definitions of their answers give. For laws alone.
use Rattle.std.specs.Prelude.{ℕ, List, Option, None, Some, Err, Ok, Result}
use Rattle.parsing.specs.Check.{checked}
use Rattle.parsing.specs.declared.Checked.{Checked}
use Rattle.rows.specs.Row.{kinds_of}
use Rattle.outcomes.specs.Printed.{measured, printed, Outcome}
use Rattle.refusals.specs.Numbers.{refusal_number}
use Rattle.refusals.specs.declared.Stop.{Stop}

-- Checking a format against kinds; measuring a row under a format; printing it into so many bytes and ends.
pub data Call : Type 0 where
  checking : List ℕ → List ℕ → Call
  measuring : List ℕ → List ℕ → Call
  printing : List ℕ → List ℕ → ℕ → ℕ → Call

abbrev pub format_in : Call → List ℕ
format_in (checking s ks) = s
format_in (measuring s row) = s
format_in (printing s row room slots) = s

-- The kind bytes, of a row with their null marks.
abbrev pub kinds_in : Call → List ℕ
kinds_in (checking s ks) = ks
kinds_in (measuring s row) = kinds_of row
kinds_in (printing s row room slots) = kinds_of row

-- The row that is measured or printed.
pub data OfRow : Call → List ℕ → Type 0 where
  measured_row : {s row : List ℕ} → OfRow (measuring s row) row
  printed_row : {s row : List ℕ} {room slots : ℕ} → OfRow (printing s row room slots) row

-- "number, place": what a call is refused with; none where it is accepted.
abbrev pub of_checked : Result Checked Stop → Option Stop
of_checked (Ok found) = None
of_checked (Err t) = Some t

abbrev pub of_outcome : Outcome → Option Stop
of_outcome (Ok found) = None
of_outcome (Err t) = Some t

abbrev pub refusal : Call → Option Stop
refusal (checking s ks) = of_checked (checked s ks)
refusal (measuring s row) = of_outcome (measured s row)
refusal (printing s row room slots) = of_outcome (printed s row room slots)

-- The same as the number and the place that are returned.
abbrev pub returned : Option Stop → Option (ℕ × ℕ)
returned None = None
returned (Some t) = Some (refusal_number t.refusal, t.place)
