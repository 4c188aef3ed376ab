-- What one pass over the pieces answers and leaves, and what checking makes of it: for the contracts of the steps of this crate. Nothing in
-- the promises of checking, measuring and printing speaks of these.
use Rattle.std.specs.Prelude.{ℕ, ◌≤◌, ◌≡◌, Bool, true, false, List, [], length, Err, Ok, Result}
use Rattle.refusals.specs.Limits.{most_format}
use Rattle.writing.specs.Choose.{choose}
use Rattle.parsing.specs.Listed.{Placed, placed, ended, Ended}
use Rattle.parsing.specs.Check.{largest_of}
use Rattle.parsing.specs.declared.Checked.{Checked}
use Rattle.rows.specs.Row.{kinds_of, is_row}
use Rattle.printing.specs.declared.passes.Walked.{Walked}
use Rattle.printing.specs.Tallies.{tallied, shown_texts, Tally}
use Rattle.refusals.specs.declared.Stop.{Stop}

-- What checking answers after a pass that only read.
abbrev pub checked_of : Ended → ℕ → ℕ → Result Checked Stop
checked_of (Ok end) k largest = Ok (record { pieces = k; largest = largest })
checked_of (Err t) k largest = Err t

abbrev pub checked_by : Walked → Result Checked Stop
checked_by w = checked_of w.end w.pieces w.largest

-- That 1 and 14 are excluded; ks are the row's kind bytes.
pub record Passed (s row ks : List ℕ) : Type 0 where
  pub short : length s ≤ most_format
  pub kept : is_row row ≡ true
  pub kinds : ks ≡ kinds_of row

-- What a pass needs where it prints; where it only reads, it looks at no row.
abbrev pub Walkable : Bool → List ℕ → List ℕ → List ℕ → Type 0
Walkable true s row ks = Passed s row ks
Walkable false s row ks = Unit {0}

-- The texts that a pass comes to, and what it adds up over pieces: none and nothing where it only reads.
abbrev pub walk_texts : Bool → List ℕ → List ℕ → List ℕ → List (List ℕ)
walk_texts prints s row ks = choose prints (λ _. shown_texts s row (placed s ks)) (λ _. [])

abbrev pub pass_tally : Bool → List ℕ → List ℕ → List Placed → Tally
pass_tally prints s row ps = choose prints (λ _. tallied s row (Ok 0) ps) (λ _. Ok 0)

-- What a pass over a format and kinds answers: of the pieces before a refusal, or of all.
pub record Walk (s row ks : List ℕ) (prints : Bool) (r : Walked) : Type 0 where
  pub end : r.end ≡ ended s ks
  pub tally : r.tally ≡ pass_tally prints s row (placed s ks)
  pub pieces : r.pieces ≡ length (placed s ks)
  pub largest : r.largest ≡ largest_of (placed s ks)
