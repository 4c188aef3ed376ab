-- What `stage` leaves. Nothing in the promises of checking, measuring and printing speaks of it.
use Rattle.std.specs.Prelude.{ℕ, ◌≡◌, ◌&&◌, List, [], leb, ltb, length, Result, Ok, Err}
use Rattle.refusals.specs.Numbers.{stop}
use Rattle.refusals.specs.declared.Stop.{Stop}
use Rattle.refusals.specs.declared.Refusal.TheVariants.{LongFormat, MalformedFormat}
use Rattle.refusals.specs.Limits.{most_format}
use Rattle.writing.specs.Choose.{choose}
use Rattle.utf8.specs.Utf8.{well_formed}
use Rattle.parsing.specs.Listed.{placed}
use Rattle.rows.specs.Row.{kinds_of, is_row}
use Rattle.printing.specs.Tallies.{shown_texts, laid_texts, laid_ends}

-- The texts that a call comes to: those of the pieces before one that is refused or not printed; none where 1, 2 or 14 stops the call.
unfoldable pub staged_texts : List ℕ → List ℕ → List (List ℕ)
staged_texts s row =
    choose (leb (length s) most_format && well_formed s && is_row row) (λ _. shown_texts s row (placed s (kinds_of row))) (λ _. [])

-- What `stage` leaves of d and e, of every format and row.
pub record Staged (s row d e out ends : List ℕ) : Type 0 where
  pub bytes : out ≡ laid_texts (staged_texts s row) d
  pub slots : ends ≡ laid_ends (staged_texts s row) e

-- 1 and 2, of a format by itself.
unfoldable pub format_stop : List ℕ → Result (Unit {0}) Stop
format_stop s =
    choose (ltb most_format (length s)) (λ _. Err (stop LongFormat 0)) (λ _. choose (well_formed s) (λ _. Ok tt) (λ _. Err (stop MalformedFormat 0)))
