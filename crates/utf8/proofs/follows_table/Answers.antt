-- `utf8::follows_table` meets its contract. Assumes nothing.
use native.Mathlib.Omega.{arith}
use Rattle.utf8.proofs.Utf8.{at_lead, at_next, at_low, at_high}
use Rattle.utf8.proofs.follows_table.Goals as goal

pub returns-else-contains : goal.returns-else-contains
returns-else-contains c = grind (arith, at_low, at_high)

pub loop-b-preserved : goal.loop-b-preserved
loop-b-preserved c = grind (arith, at_lead, at_next)
