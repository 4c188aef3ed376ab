-- `numerals::decimal_len` meets its contract. The loop's invariant: the places counted so far and those of the quotient are together the places of x.
-- Assumes nothing.
use Rattle.std.proofs.Common.{◌≡◌, ◌+◌}
use Rattle.numerals.specs.Digits.{places}
use Rattle.numerals.proofs.decimal_len.Given as goal

abbrev pub invariant-loop-v : goal.invariant-loop-v
invariant-loop-v l = l.n + places 10 l.v ≡ places 10 l.x

abbrev pub decreases-loop-v : goal.decreases-loop-v
decreases-loop-v l = l.v
