-- What `stage` leaves of an accepted format and row: the text, where it has room, and, whether it has or not, its ends, where these do. Assumes nothing.
use Rattle.std.specs.Prelude.{Option, None, Some, Err, Ok}
use mathlib.Core.Path.{◌≡◌, refl, subst}
use mathlib.Core.List.{List}
use Prim.Native.Nat.{ℕ, ◌≤◌}
use native.Mathlib.Omega.{arith}
use lib.Dec.{ltb}
use lib.ListN.{length}
use borrow.Author.Tests.{le-leb, ltb-false}
use Rattle.refusals.specs.Limits.{most_format, largest_end}
use Rattle.writing.specs.Laid.{laid}
use Rattle.writing.proofs.Choose.{by_test}
use Rattle.utf8.specs.Utf8.{well_formed}
use Rattle.parsing.specs.Listed.{placed, ended, Ended}
use Rattle.rows.specs.Row.{kinds_of, is_row}
use Rattle.outcomes.specs.Printed.{texts, printed_text, ends_from, first_stop, unless_stopped, measured_end, measured, Outcome}
use Rattle.outcomes.proofs.Texts.{texts-length}
use Rattle.printing.specs.Tallies.{shown_texts}
use Rattle.printing.specs.Stages.{staged_texts, Staged}
use Rattle.printing.proofs.Fitting.{fitting-all, ends_all}
use Rattle.printing.proofs.Shown.{shown-all}
use Rattle.refusals.specs.declared.Stop.{Stop}
use Rattle.outcomes.specs.declared.Measured.{Measured}

-- That an accepted call comes to all texts.
abbrev Whole : List ℕ → List ℕ → List (List ℕ) → Outcome → Type 0
Whole s row ts (Ok m) = ts ≡ texts s row
Whole s row ts (Err t) = Unit {0}

module _ (s row : List ℕ) where
  whole-end : (x : Ended) → Whole s row (shown_texts s row (placed s (kinds_of row))) (measured_end s row x)
  unfolding measured_end texts
  whole-end (Ok end) = go (first_stop s row (placed s (kinds_of row))) refl
    where
      go : (x : Option Stop) → first_stop s row (placed s (kinds_of row)) ≡ x
          → Whole s row (shown_texts s row (placed s (kinds_of row)))
          (unless_stopped x (Ok (record { length = length (printed_text s row); pieces = length (placed s (kinds_of row)) })))
      go None q = shown-all s row (placed s (kinds_of row)) q
      go (Some t) q = tt
  whole-end (Err t) = tt

  whole : Whole s row (staged_texts s row) (measured s row)
  unfolding measured staged_texts
  whole =
      by_test (Whole s row (staged_texts s row)) (ltb most_format (length s)) _ _ (λ _. tt)
      (λ a. by_test (Whole s row (staged_texts s row)) (well_formed s) _ _
      (λ b. by_test (Whole s row (staged_texts s row)) (is_row row) _ _
      (λ c. simp (le-leb (length s) most_format (ltb-false most_format (length s) a), b, c) (whole-end (ended s (kinds_of row)))) (λ _. tt)) (λ _. tt))

  module _ {m : Measured} (a : measured s row ≡ Ok m) {d e out ends : List ℕ} (w : Staged s row d e out ends) where
    pub all-texts : staged_texts s row ≡ texts s row
    all-texts = subst (Whole s row (staged_texts s row)) a whole

    pub staged_text : length (printed_text s row) ≤ length d → out ≡ laid d (printed_text s row)
    unfolding printed_text
    staged_text h = rw (← fitting-all (length d) (texts s row) h, ← all-texts) w.bytes

    pub staged_ends : length (placed s (kinds_of row)) ≤ length e → length (printed_text s row) ≤ largest_end → ends ≡ laid e (ends_from 0 (texts s row))
    unfolding printed_text texts
    staged_ends h wide =
        rw (← ends_all (length e) (texts s row) (omega (arith, texts-length s row (placed s (kinds_of row)))) wide, ← all-texts) w.slots
