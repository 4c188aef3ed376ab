-- `parsing::scanning::is_in_block` meets its contract. The loop's invariant: found says whether a `%` is among the first i bytes. Assumes nothing.
use mathlib.Core.Path.{◌≡◌}
use lib.Dec.{ltb}
use lib.ListN.{drop}
use Rattle.parsing.specs.Texts.{text_length}
use Rattle.parsing.proofs.scanning.is_in_block.Given as goal

abbrev pub invariant-loop-i : goal.invariant-loop-i
invariant-loop-i l = l.found ≡ ltb (text_length (drop l.at l.text)) l.i
