-- `live::column_largest` meets its contract. Assumes nothing.
use Rattle.std.proofs.Common.{◌≡◌, ◌≤◌, max, drop}
use Rattle.live.specs.Steps.{column_largest}
use Rattle.live.proofs.column_largest.Given as goal

abbrev pub invariant-loop-row : goal.invariant-loop-row
invariant-loop-row l =
    record {
      all : column_largest l.rows l.k ≡ max l.most (column_largest (drop l.row-index l.rows) l.k);
      less : l.most ≤ l.top;
    }
