-- `parsing::scanning::next_percent` meets its contract. The loop's invariant: the text from i on ends where the text from the start does. Assumes nothing.
use Prim.Native.Nat.{◌+◌}
use mathlib.Core.Path.{◌≡◌}
use lib.ListN.{drop}
use Rattle.parsing.specs.Texts.{text_length}
use Rattle.parsing.proofs.scanning.next_percent.Given as goal

abbrev pub invariant-loop-i : goal.invariant-loop-i
invariant-loop-i l = l.i + text_length (drop l.i l.text) ≡ l.at + text_length (drop l.at l.text)
