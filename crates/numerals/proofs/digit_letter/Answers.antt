-- `numerals::digit_letter` meets its contract. In each case, small or capital, the gap is a number, so that all is linear in the digit and its quotient
-- by ten; and the letter is that of a digit below ten, or from ten on. Assumes nothing.
use native.Mathlib.Decide.{dec_lt}
use Rattle.std.proofs.Common.{arith, le-ltb, lt-ltb}
use borrow.Table.Steps.{cases}
use Rattle.numerals.specs.Digits.{letter_of}
use Rattle.numerals.proofs.digit_letter.Goals as goal

pub returns : goal.returns
unfolding letter_of
returns c =
    elim (dec_lt c.args.digit 10) [
      | yes p ↦ cases c.args.upper (λ e. simp (e, lt-ltb _ _ p) (omega arith)) (λ e. simp (e, lt-ltb _ _ p) (omega arith))
      | no n ↦
          let h = le-ltb c.args.digit 10 (omega arith) in
          cases c.args.upper (λ e. simp (e, h) (omega (arith, c.requires))) (λ e. simp (e, h) (omega (arith, c.requires)))
    ]
