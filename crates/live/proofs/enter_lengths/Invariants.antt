-- `live::enter_lengths` meets its contract. Assumes nothing.
use Rattle.std.proofs.Common.{◌≡◌, ℕ, ◌<◌, ◌≤◌, max, slice_index}
use Rattle.live.specs.Steps.{length_in}
use Rattle.live.proofs.enter_lengths.Given as goal

abbrev pub invariant-loop-k : goal.invariant-loop-k
invariant-loop-k l =
    record {
      written : (j : ℕ) → j < l.k → slice_index l.own j ≡ length_in l.ends l.pieces j;
      raised : (j : ℕ) → j < l.k → slice_index l.longest j ≡ max (slice_index l.initial.longest j) (length_in l.ends l.pieces j);
      later : (j : ℕ) → l.k ≤ j → slice_index l.longest j ≡ slice_index l.initial.longest j;
    }
