-- `numerals::short_len` meets its contract. Assumes nothing.
use Rattle.std.proofs.Common.{sym, arith, lit≤}
use Rattle.numerals.proofs.Digits.{places-small, places_is}
use Rattle.numerals.proofs.short_len.Goals as goal

pub returns-in-0-to-9 : goal.returns-in-0-to-9
returns-in-0-to-9 c = sym (places-small 10 _ (omega arith))

pub returns-in-10-to-99 : goal.returns-in-10-to-99
returns-in-10-to-99 c = sym (places_is 10 1 _ (lit≤ tt) (omega arith) (omega arith))

pub returns-in-100-to-999 : goal.returns-in-100-to-999
returns-in-100-to-999 c = sym (places_is 10 2 _ (lit≤ tt) (omega arith) (omega arith))

pub returns-in_default : goal.returns-in_default
returns-in_default c = sym (places_is 10 3 _ (lit≤ tt) (omega arith) (omega arith))
