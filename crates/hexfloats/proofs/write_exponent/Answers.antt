-- `hexfloats::write_exponent` meets its contract: in each case letter and sign were written, and the digits behind them. Assumes nothing.
use Prim.Native.Nat.{◌-◌}
use mathlib.Core.Path.{◌≡◌}
use mathlib.Core.Bool.{false}
use mathlib.Core.List.{[], ◌∷◌}
use native.Mathlib.Omega.{arith}
use Rattle.writing.specs.Writers.{Wrote}
use Rattle.writing.proofs.Chained.{wrote_two}
use Rattle.numerals.specs.Digits.{digits_in, letters_of}
use Rattle.hexfloats.specs.Texts.{exponent_text}
use Rattle.hexfloats.proofs.Texts.{below-text, above-text, exponent_made}
use Rattle.hexfloats.proofs.write_exponent.Goals as goal
use Rattle.hexfloats.proofs.write_exponent.Goals.{then-exponent-bias, else-exponent-bias}

pub returns : goal.returns
returns c =
    let a = c.args in
    let d = a.out.now in
    let i = c.if-exponent-bias in
    let n = c.from-n.result in
    let digits = letters_of false (digits_in 10 c.decimal_len.result n) in
    elim i.branch [
      | then-exponent-bias w ↦
          let m : n ≡ a.bias - a.exponent = omega (arith, c.from-n.ensures, c.abs_diff.ensures) in
          let first : Wrote d (w.exponent_letter.result ∷ 45 ∷ []) i.a i.out = rw (w.out-is, w.a-is) w.write_text-a.ensures in
          let e : w.exponent_letter.result ∷ 45 ∷ digits ≡ exponent_text a.upper a.exponent a.bias =
          rw (w.exponent_letter.ensures, m)
          (exponent_made a.upper a.exponent a.bias (45 ∷ []) (a.bias - a.exponent) (below-text a.upper a.exponent a.bias w.if-exponent-bias.true) _
          (rw m at c.decimal_len.ensures)) in
          rw (← e) (wrote_two d _ _ _ _ _ _ first c.write_digits.ensures)
      | else-exponent-bias w ↦
          let m : n ≡ a.exponent - a.bias = omega (arith, c.from-n.ensures, c.abs_diff.ensures) in
          let first : Wrote d (w.exponent_letter-else-exponent-bias.result ∷ []) i.a i.out =
          rw (w.out-is, w.a-is) w.write_text-a-else-exponent-bias.ensures in
          let e : w.exponent_letter-else-exponent-bias.result ∷ digits ≡ exponent_text a.upper a.exponent a.bias =
          rw (w.exponent_letter-else-exponent-bias.ensures, m)
          (exponent_made a.upper a.exponent a.bias [] (a.exponent - a.bias) (above-text a.upper a.exponent a.bias w.if-exponent-bias.false) _
          (rw m at c.decimal_len.ensures)) in
          rw (← e) (wrote_two d _ _ _ _ _ _ first c.write_digits.ensures)
    ]
