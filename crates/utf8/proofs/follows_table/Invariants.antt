-- `utf8::follows_table` meets its contract. The loop's invariant: the rest of the text decides. Assumes nothing.
use Rattle.utf8.proofs.Utf8.{ReadTo}
use Rattle.utf8.proofs.follows_table.Given as goal

abbrev pub invariant-loop-b : goal.invariant-loop-b
invariant-loop-b l = ReadTo l.s l.b-index l.next.need l.next.low l.next.high
