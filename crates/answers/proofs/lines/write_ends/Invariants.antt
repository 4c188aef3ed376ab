-- What was written are the lines of the ends so far.
use Rattle.std.proofs.Common.{◌*◌, ◌≤◌, take}
use Rattle.writing.specs.Writers.{Wrote}
use Rattle.answers.specs.Lines.{end_lines}
use Rattle.answers.proofs.lines.write_ends.Given as goal

abbrev pub invariant-loop-end : goal.invariant-loop-end
invariant-loop-end l = (Wrote l.initial.out (end_lines (take l.end-index l.ends)) l.at l.out) × (l.at ≤ 11 * l.end-index)
