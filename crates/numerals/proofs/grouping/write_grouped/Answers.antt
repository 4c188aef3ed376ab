-- `numerals::grouping::write_grouped` meets its contract. The invariant: the bytes from place i on are stored, and v with the digits since the last comma
-- gives those before them. Assumes nothing.
use Rattle.std.proofs.Common.{ℕ, ◌+◌, ◌/◌, sym, ap, ◌∙◌, arith, eq-eqb, ne_eqb}
use Prim.Native.Char.{code}
use Rattle.writing.proofs.FromRight.{from_right}
use Rattle.numerals.specs.Digits.{decimal}
use Rattle.numerals.specs.Grouping.{grouped}
use Rattle.numerals.proofs.Commas.{group_byte, group_next, grouped_right}
use Rattle.writing.proofs.Backwards.{written_none, written_turn, written_all}
use Rattle.numerals.proofs.grouping.write_grouped.Goals as goal

pub loop-i-init : goal.loop-i-init
loop-i-init c =
    let a = c.args in (
      omega arith,
      written_none group_byte group_next a.out.now (grouped (decimal a.x)) a.n (a.x, 0)
          (grouped_right a.x ∙ ap (λ (k : ℕ). from_right group_byte group_next k (a.x, 0)) (sym c.requires.0)),
    )

pub loop-i-preserved-then-run-eq3 : goal.loop-i-preserved-then-run-eq3
loop-i-preserved-then-run-eq3 c =
    let l = c.loop-i in
    let a = c.args in
    let e = eq-eqb l.run 3 c.if-run-eq3.true in (
      omega arith,
      written_turn group_byte group_next a.out.now (grouped (decimal a.x)) l.out l.i (l.v, l.run) (l.v, 0) (code ",")
          (omega arith) (omega arith) (simp e) (simp e) l.invariant.1,
    )

pub loop-i-preserved : goal.loop-i-preserved
loop-i-preserved c =
    let l = c.loop-i in
    let a = c.args in
    let e = ne_eqb l.run 3 c.if-run-eq3.false in (
      omega arith,
      written_turn group_byte group_next a.out.now (grouped (decimal a.x)) l.out l.i (l.v, l.run) (l.v / 10, l.run + 1)
          c.digit_letter.result
          (omega arith) (omega arith) (simp e (sym c.digit_letter.ensures)) (simp e) l.invariant.1,
    )

pub returns : goal.returns
returns c =
    let l = c.loop-i in
    let a = c.args in (
      c.requires.0,
      written_all group_byte group_next a.out.now (grouped (decimal a.x)) l.out l.i (l.v, l.run) (omega arith) l.invariant.1,
    )
