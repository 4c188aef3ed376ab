-- Each list counts at most as many as its array has bytes.
use Rattle.std.proofs.Common.{◌+◌, ◌*◌, ◌≤◌}
use Rattle.vectors.proofs.run_lists.Given as goal

abbrev pub invariant-loop-file : goal.invariant-loop-file
invariant-loop-file g l = l.all.passed + l.all.failed ≤ 262144 * l.file-index
