-- What the steps of a call answer and leave. No promise of a call speaks of these.
use Rattle.std.specs.Prelude.{ℕ, ◌+◌, ◌-◌, ◌%◌, min, max, ◌||◌, List, [], ◌∷◌, ◌==◌, nat_lt, slice_index, Option, position, take}
use Rattle.refusals.specs.Limits.{most_gates}
use Rattle.writing.specs.Choose.{choose}
use Rattle.outcomes.specs.Demand.{end_before}
use Rattle.live.specs.declared.GateList.{GateList}

-- How many gates are present; of memory that no calls left, at most 128.
abbrev pub present : GateList → ℕ
present m = min m.count most_gates

-- The place of the gate n.
abbrev pub place_of : GateList → ℕ → Option ℕ
place_of m n = position (λ number. number == n) (take (present m) m.numbers)

-- The length of a piece from the ends, in 32 bits, of the first `pieces`; 0 past these.
abbrev pub length_in : List ℕ → ℕ → ℕ → ℕ
length_in ends pieces k = choose (nat_lt k pieces) (λ _. (slice_index ends k + 4294967296 - end_before ends k) % 4294967296) (λ _. 0)

-- The largest k-th length of some gates.
unfoldable pub column_largest : List (List ℕ) → ℕ → ℕ
column_largest [] k = 0
column_largest (row ∷ rows) k = max (slice_index row k) (column_largest rows k)

-- What is left of a largest length `top` where a gate of the length `own` leaves: top, unless own was the largest; then the largest of the others.
abbrev pub lowered : ℕ → ℕ → ℕ → ℕ
lowered own top others = choose (own == 0 || nat_lt own top) (λ _. top) (λ _. min own others)
