-- `live::take_out` meets its contract. Assumes nothing.
use Rattle.std.proofs.Common.{◌≡◌, ◌≢◌, ℕ, ◌<◌, ◌≤◌, [], length, get_or, slice_index, take}
use Rattle.live.specs.Steps.{column_largest, lowered}
use Rattle.live.proofs.take_out.Given as goal

abbrev pub invariant-loop-k : goal.invariant-loop-k
invariant-loop-k l =
    record {
      size : length l.lengths ≡ 128;
      kept : (i : ℕ) → i ≢ l.place → get_or l.lengths i [] ≡ get_or l.initial.lengths i [];
      moved : (j : ℕ) → j < l.k → slice_index (get_or l.lengths l.place []) j ≡ slice_index (get_or l.initial.lengths l.last []) j;
      own : (j : ℕ) → l.k ≤ j → slice_index (get_or l.lengths l.place []) j ≡ slice_index (get_or l.initial.lengths l.place []) j;
      lower : (j : ℕ) → j < l.k
          → slice_index l.longest j
          ≡ lowered (slice_index (get_or l.initial.lengths l.place []) j) (slice_index l.initial.longest j) (column_largest (take l.last l.lengths) j);
      later : (j : ℕ) → l.k ≤ j → slice_index l.longest j ≡ slice_index l.initial.longest j;
    }
