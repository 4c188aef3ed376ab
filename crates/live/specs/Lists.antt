-- What the memory of a list holds. The promises of the calls speak of `Represents` alone; the claim over histories holds whatever stands in its place.
use Rattle.std.specs.Prelude.{◌≡◌, ℕ, ◌<◌, ◌≤◌, List, [], length, ◌≢◌, slice_index, get_or}
use Rattle.refusals.specs.Limits.{most_gates, most_pieces}
use Rattle.gates.specs.Gates.{Gate, piece_length, largest}
use Rattle.gates.specs.Same.{SameGates, gate_at}
use Rattle.live.specs.declared.GateList.{GateList}

-- The i-th gate's number, the k-th piece's largest length, and the length of the i-th gate's k-th piece.
abbrev pub number_at : GateList → ℕ → ℕ
number_at m i = slice_index m.numbers i

abbrev pub longest_at : GateList → ℕ → ℕ
longest_at m k = slice_index m.longest k

abbrev pub length_at : GateList → ℕ → ℕ → ℕ
length_at m i k = slice_index (get_or m.lengths i []) k

-- That memory holds these gates in this order.
pub record Holds (s : List ℕ) (gates : List Gate) (m : GateList) : Type 0 where
  pub count : m.count ≡ length gates
  pub few : length gates ≤ most_gates
  pub numbers : (i : ℕ) → i < length gates → number_at m i ≡ (gate_at gates i).number
  pub lengths : (i k : ℕ) → i < length gates → k < most_pieces → length_at m i k ≡ piece_length s (gate_at gates i).row k
  pub longest : (k : ℕ) → k < most_pieces → longest_at m k ≡ largest s k gates
  -- no gate stands there twice
  pub apart : (i j : ℕ) → i < j → j < length gates → (gate_at gates i).number ≢ (gate_at gates j).number

-- That memory represents gates: it holds them in some order.
pub record Represents (s : List ℕ) (gates : List Gate) (m : GateList) : Type 0 where
  pub held : List Gate
  pub holds : Holds s held m
  pub same : SameGates held gates
