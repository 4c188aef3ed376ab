-- `numerals::integers::is_negative` meets its contract: the sign bit. Assumes nothing.
use Rattle.std.proofs.Common.{arith}
use Rattle.numerals.proofs.TwosComplement.{negative_test}
use Rattle.numerals.proofs.integers.is_negative.Goals as goal

pub returns : goal.returns
returns c = negative_test 64 c.args.x (omega arith)
