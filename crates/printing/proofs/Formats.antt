-- What 1 and 2, of a format by itself, leave of checking, measuring and staging. Assumes nothing.
use Rattle.std.proofs.lemmas.Result.{err_from_is_err_and}
use borrow.Author.Tests.{le-leb, lt-leb, lt-ltb, le-ltb, ltb-true, ltb-false}
use Rattle.std.proofs.Common.{◌≡◌, ℕ, ◌≤◌, ◌<◌, true, false, ◌&&◌, List, [], length, leb, Ok, Err, sym, arith}
use lib.Dec.{ltb}
use Rattle.refusals.specs.Limits.{most_format, most_kinds}
use Rattle.refusals.specs.Numbers.{stop}
use Rattle.refusals.specs.declared.Stop.{Stop}
use Rattle.refusals.specs.declared.Refusal.TheVariants.{LongFormat, MalformedFormat, BadKinds, BrokenRow}
use Rattle.writing.specs.Choose.{choose}
use Rattle.writing.proofs.Choose.{by_test}
use Rattle.utf8.specs.Utf8.{well_formed}
use Rattle.kinds.specs.Kinds.{all_known}
use Rattle.parsing.specs.Check.{checked_end, checked}
use Rattle.parsing.specs.Listed.{Ended, placed, ended}
use Rattle.rows.proofs.Rows.{row_shape, row_read, row_broken}
use Rattle.printing.proofs.Fitting.{texts-none, ends_none}
use Rattle.printing.proofs.Outcomes.{walk_measured}
use Rattle.rows.specs.Row.{kinds_of, is_row}
use Rattle.outcomes.specs.Printed.{measured_end, measured}
use Rattle.printing.specs.Passes.{walk_texts}
use Rattle.printing.specs.Stages.{staged_texts, format_stop}

by_format : (P : Ended → Type 0) (s : List ℕ) → (most_format < length s → P (Err (stop LongFormat 0)))
    → (length s ≤ most_format → well_formed s ≡ false → P (Err (stop MalformedFormat 0)))
    → (length s ≤ most_format → well_formed s ≡ true → P (Ok tt)) → P (format_stop s)
unfolding format_stop
by_format P s long malformed good =
    by_test P (ltb most_format (length s)) _ _ (λ a. long (ltb-true most_format (length s) a))
    (λ a. let short = ltb-false most_format (length s) a in by_test P (well_formed s) _ _ (λ b. good short b) (λ b. malformed short b))

never : {t : Stop} → ◌≡◌ {A = Ended} (Ok tt) (Err t) → {P : Type 0} → P
never q = absurd (let z : ◌≡◌ {A = ℕ} 0 1 = cc in omega arith)

-- stopped
module _ (s : List ℕ) (t : Stop) (e : format_stop s ≡ Err t) where
  same : {u : Stop} → ◌≡◌ {A = Ended} (Err u) (Err t) → t ≡ u
  same q = cc

  pub checked-stopped : (ks : List ℕ) → Err t ≡ checked s ks
  unfolding checked
  checked-stopped ks =
      by_format (λ x. x ≡ Err t → Err t ≡ checked s ks) s (λ a q. simp (same q, lt-ltb most_format (length s) a))
      (λ a b q. simp (same q, le-ltb most_format (length s) a, b)) (λ a b q. never q) e

  pub measured-stopped : (row : List ℕ) → Err t ≡ measured s row
  unfolding measured
  measured-stopped row =
      by_format (λ x. x ≡ Err t → Err t ≡ measured s row) s (λ a q. simp (same q, lt-ltb most_format (length s) a))
      (λ a b q. simp (same q, le-ltb most_format (length s) a, b)) (λ a b q. never q) e

  pub staged-stopped : (row : List ℕ) → staged_texts s row ≡ []
  unfolding staged_texts
  staged-stopped row =
      by_format (λ x. x ≡ Err t → staged_texts s row ≡ []) s (λ a q. simp (lt-leb (length s) most_format a))
      (λ a b q. simp (le-leb (length s) most_format a, b)) (λ a b q. never q) e

-- passed
module _ (s : List ℕ) (u : Unit {0}) (e : format_stop s ≡ Ok u) where
  pub passed : (length s ≤ most_format) × (well_formed s ≡ true)
  passed =
      by_format (λ x. x ≡ Ok u → (length s ≤ most_format) × (well_formed s ≡ true)) s (λ a q. never (sym q)) (λ a b q. never (sym q))
      (λ a b q. (a, b)) e

  pub checked-passed : (ks : List ℕ)
      → checked s ks ≡ choose (leb (length ks) most_kinds && all_known ks) (λ _. checked_end (ended s ks) (placed s ks)) (λ _. Err (stop BadKinds 0))
  unfolding checked
  checked-passed ks = simp (le-ltb most_format (length s) passed.0, passed.1)

  pub measured-passed : (row : List ℕ)
      → measured s row ≡ choose (is_row row) (λ _. measured_end s row (ended s (kinds_of row))) (λ _. Err (stop BrokenRow 0))
  unfolding measured
  measured-passed row = simp (le-ltb most_format (length s) passed.0, passed.1)

  pub staged-passed : (row : List ℕ) → staged_texts s row ≡ walk_texts (is_row row) s row (kinds_of row)
  unfolding staged_texts
  staged-passed row = simp (le-leb (length s) most_format passed.0, passed.1)

pub ruleset checks = (checked-stopped, checked-passed, err_from_is_err_and, le-leb, lt-leb)

pub ruleset passes = (measured-stopped, measured-passed, staged-stopped, staged-passed, passed, err_from_is_err_and)

pub ruleset stages = (passes, row_read, row_broken, row_shape, texts-none, ends_none, walk_measured)
