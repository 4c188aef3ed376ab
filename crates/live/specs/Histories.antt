-- What E4 claims, of memory that was emptied and then changed by calls alone, each as it promises. For laws alone.
use Rattle.std.specs.Prelude.{◌≡◌, ℕ, ◌<◌, List, [], ◌∷◌, slice_index}
use Rattle.refusals.specs.Limits.{most_pieces}
use Rattle.gates.specs.Gates.{Change, present_after, answers, largest}
use Rattle.gates.specs.declared.Changed.{Changed}
use Rattle.live.specs.Promises.{Relation, Emptied, Changes, Lengths}

-- "From an empty list changed by these calls alone": the calls, all under the format s, their answers, and the memory they leave. The last call stands
-- first.
pub data History {M : Type 0} (R : Relation M) (s : List ℕ) : List Change → List Changed → M → Type 0 where
  begun : {m : M} → Emptied R m → History R s [] [] m
  called : {calls : List Change} {given : List Changed} {m m' : M} {c : Change} {r : Changed} → History R s calls given m → Changes R s c m r m'
      → History R s (c ∷ calls) (r ∷ given) m'

-- Every call answered as the gates present before it demand; and "after each join or leave these lengths .. equal those worked out afresh from the gates
-- present", whatever the memory holds them by.
pub record Claimed {M : Type 0} (R : Relation M) (s : List ℕ) (calls : List Change) (given : List Changed) (m : M) : Type 0 where
  pub all_answers : given ≡ answers s calls
  pub all_lengths : (out : List ℕ) → Lengths R m out → (k : ℕ) → k < most_pieces → slice_index out k ≡ largest s k (present_after s calls)
