-- What the calls on a list promise of its memory, m before and m' after. They speak of memory through a relation alone, that it represents gates under a
-- format; which one this is (`Lists`), and what memory is, the claim over histories does not ask.
use Rattle.std.specs.Prelude.{◌≡◌, ℕ, ◌<◌, List, [], ◌≢◌, slice_index}
use Rattle.refusals.specs.Limits.{most_pieces}
use Rattle.gates.specs.Gates.{Gate, Change, leaves, answer, after, largest}
use Rattle.gates.specs.declared.Changed.{Changed}

-- That memory represents gates under a format.
abbrev pub Relation : Type 0 → Type 1
Relation M = (s : List ℕ) (gates : List Gate) (m : M) → Type 0

-- Memory that was emptied represents no gates, under any format.
abbrev pub Emptied : {M : Type 0} → Relation M → M → Type 0
Emptied R m = (s : List ℕ) → R s [] m

-- A call on memory that represents gates answers for these, and leaves what represents the gates after it. Whatever stands in memory, a refusal leaves it
-- as it was.
pub record Changes {M : Type 0} (R : Relation M) (s : List ℕ) (c : Change) (m : M) (r : Changed) (m' : M) : Type 0 where
  pub answers : (gates : List Gate) → R s gates m → r ≡ answer s gates c
  pub gates_after : (gates : List Gate) → R s gates m → R s (after s gates c) m'
  pub refusal : (r.number ≢ 0) → m' ≡ m

-- A leave is of any format.
abbrev pub Leaves : {M : Type 0} → Relation M → ℕ → M → Changed → M → Type 0
Leaves R n m r m' = (s : List ℕ) → Changes R s (leaves n) m r m'

-- The lengths of memory that represents gates.
abbrev pub Lengths : {M : Type 0} → Relation M → M → List ℕ → Type 0
Lengths R m out = (s : List ℕ) (gates : List Gate) → R s gates m → (k : ℕ) → k < most_pieces → slice_index out k ≡ largest s k gates
