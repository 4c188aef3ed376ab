-- `elements::format_char` meets its contract. Assumes nothing.
use mathlib.Core.Path.{◌≡◌, sym, ap}
use lib.IntN.{ℤ, nat_abs}
use Rattle.numerals.specs.Integers.{integer_of, is_negative}
use Rattle.numerals.specs.declared.integers.SignMagnitude.{SignMagnitude}
use Rattle.elements.proofs.Shown.{sized_stop}
use Rattle.elements.proofs.format_char.Goals as goal
use Rattle.elements.proofs.format_char.Goals.{then-n-via-then-n, then-n-via-else-n+then-not-is_scalar}

-- the sign and the magnitude that were read are the integer's
sign : (z : ℤ) (n : SignMagnitude) → n ≡ record { negative = is_negative z; magnitude = nat_abs z } → is_negative z ≡ n.negative
sign z n e = sym (ap (λ (m : SignMagnitude). m.negative) e)

size : (z : ℤ) (n : SignMagnitude) → n ≡ record { negative = is_negative z; magnitude = nat_abs z } → nat_abs z ≡ n.magnitude
size z n e = sym (ap (λ (m : SignMagnitude). m.magnitude) e)

pub returns-then-n : goal.returns-then-n
returns-then-n c =
    let n = c.integer_of-n.result in
    let e = c.integer_of-n.ensures in
    let z = integer_of c.args.signed c.args.value in
    sized_stop c.args.out.now _ _ (elim c.then-n.branch [
      | then-n-via-then-n w ↦ simp (sign z n e, w.if-n.true)
      | then-n-via-else-n+then-not-is_scalar w ↦ simp (sign z n e, w.if-n.false, size z n e, ← w.is_scalar.ensures, w.if-not-is_scalar.true)
    ])
