-- `fields::write_signed_text` meets its contract. Assumes nothing.
use Rattle.std.proofs.Common.{ℕ, List, [], ◌∷◌, set, refl, arith, rules, le_trans}
use Prim.Native.Char.{code}
use Rattle.writing.proofs.Laid.{laid-first, laid_next}
use Rattle.numerals.specs.Digits.{decimal}
use Rattle.numerals.proofs.Digits.{at_most_twenty}
use Rattle.fields.proofs.write_signed_text.Goals as goal

pub write_decimal-requires : goal.write_decimal-requires
write_decimal-requires c = le_trans (at_most_twenty c.args.magnitude (omega arith)) (search rules)

pub write_decimal-requires-else-negative : goal.write_decimal-requires-else-negative
write_decimal-requires-else-negative c = omega (arith, at_most_twenty c.args.magnitude (omega arith))

pub returns-then-negative : goal.returns-then-negative
returns-then-negative c =
    let d = c.args.out.now in
    let minus : List ℕ = code "-" ∷ [] in
    let first = laid-first d (code "-") (omega (arith, c.requires)) in
    let wrote = c.write_decimal.ensures in
    let e = laid_next d minus (decimal c.args.magnitude) (set d 0 (code "-")) _ 1 first refl wrote.0.1 in
    simp c.if-negative.true ((omega (arith, wrote.0.0), e), omega (arith, wrote.1))
