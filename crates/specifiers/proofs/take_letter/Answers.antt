-- `specifiers::take_letter` meets its contract. Assumes nothing.
use Rattle.std.proofs.Common.{eq-eqb}
use borrow.Author.Tests.{ne_eqb}
use Rattle.writing.proofs.Bytes.{byte_at, no_byte}
use Rattle.specifiers.specs.Specifier.{time_letter_at, letter_at}
use Rattle.specifiers.proofs.take_letter.Goals as goal

pub returns-then-fmt-at : goal.returns-then-fmt-at
unfolding letter_at
returns-then-fmt-at c = simp (no_byte c.args.fmt.now c.args.at c.if-fmt-at.true)

-- t and T
pub returns-then-b-eq116 : goal.returns-then-b-eq116
unfolding letter_at time_letter_at
returns-then-b-eq116 c =
    simp (byte_at c.args.fmt.now c.args.at c.if-fmt-at.false, eq-eqb _ _ c.if-b-eq116.true) c.take_time_letter.ensures

pub returns-then-b-eq84 : goal.returns-then-b-eq84
unfolding letter_at time_letter_at
returns-then-b-eq84 c =
    simp (byte_at c.args.fmt.now c.args.at c.if-fmt-at.false, ne_eqb _ _ c.if-b-eq116.false, eq-eqb _ _ c.if-b-eq84.true)
    c.take_time_letter-then-b-eq84.ensures

-- another letter: small, or a capital
pub returns-in-Some : goal.returns-in-Some
unfolding letter_at
returns-in-Some c =
    simp (byte_at c.args.fmt.now c.args.at c.if-fmt-at.false, ne_eqb _ _ c.if-b-eq116.false, ne_eqb _ _ c.if-b-eq84.false, ← c.small_letter.ensures, c.in-Some.is)

pub returns-in_default-capital_letter : goal.returns-in_default-capital_letter
unfolding letter_at
returns-in_default-capital_letter c =
    simp (
      byte_at c.args.fmt.now c.args.at c.if-fmt-at.false,
      ne_eqb _ _ c.if-b-eq116.false,
      ne_eqb _ _ c.if-b-eq84.false,
      ← c.small_letter.ensures,
      c.in_default.is,
      ← c.capital_letter.ensures,
      c.in_default-capital_letter.is,
    )

pub returns : goal.returns
unfolding letter_at
returns c =
    simp (
      byte_at c.args.fmt.now c.args.at c.if-fmt-at.false,
      ne_eqb _ _ c.if-b-eq116.false,
      ne_eqb _ _ c.if-b-eq84.false,
      ← c.small_letter.ensures,
      c.in_default.is,
      ← c.capital_letter.ensures,
      c.in-Some-capital_letter.is,
    )
