-- `words::write_fours` meets its contract. Assumes nothing.
use mathlib.Core.Path.{◌≡◌}
use lib.ListN.{length, take}
use Rattle.writing.specs.Laid.{laid}
use Rattle.words.specs.LittleEndian.{all_bytes}
use Rattle.words.proofs.write_fours.Given as goal

abbrev pub invariant-loop-k : goal.invariant-loop-k
invariant-loop-k l = (l.out ≡ laid l.initial.out (all_bytes (take l.k l.numbers))) × (length l.out ≡ length l.initial.out)
