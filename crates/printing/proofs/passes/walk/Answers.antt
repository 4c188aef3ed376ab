-- `printing::passes::walk` meets its contract. The invariant: `Laying`, of the pieces so far; its measure is what is left of the format. Assumes nothing.
use Rattle.std.specs.Prelude.{Err}
use Prim.Native.Nat.{max}
use mathlib.Core.Path.{sym, ap, subst, ◌∙◌}
use mathlib.Core.Bool.{Bool}
use native.Mathlib.Omega.{arith}
use Rattle.parsing.proofs.Progress.{advanced}
use Rattle.elements.specs.Sizes.{Size}
use Rattle.printing.specs.Tallies.{added}
use Rattle.printing.specs.Passes.{Walkable}
use Rattle.printing.proofs.Reached.{reached_full, reached_refused, reached_end}
use Rattle.printing.proofs.Laying.{piece_ready, laying_as, laying_start, laying_read, laying_printed, walk_answer, walk_bytes, walk_slots}
use borrow.Author.Rules.{rules}
use Rattle.printing.proofs.passes.walk.Goals as goal
use Rattle.printing.proofs.passes.walk.Goals.{then-prints, else-prints}

pub loop-c-init : goal.loop-c-init
loop-c-init c = laying_start c.first_cursor-c.ensures

pub returns-then-pieces-ge-MOST_PIECES : goal.returns-then-pieces-ge-MOST_PIECES
returns-then-pieces-ge-MOST_PIECES c =
    let l = c.loop-c in
    let full = reached_full l.invariant.reached c.loop-c-test.true c.if-pieces-ge-MOST_PIECES.true in
    record {
      walk = walk_answer l.invariant full.1 (ap Err c.at.ensures ∙ sym full.0);
      out_after = walk_bytes l.invariant full.1;
      ends_after = walk_slots l.invariant full.1;
    }

pub returns-in-Err : goal.returns-in-Err
returns-in-Err c =
    let l = c.loop-c in
    let step = sym c.next_piece.ensures ∙ c.in-Err.is in
    let tail = reached_refused l.invariant.reached c.loop-c-test.true c.if-pieces-ge-MOST_PIECES.false step in
    record {
      walk = walk_answer l.invariant tail.1 (ap Err c.at-in-Err.ensures ∙ sym tail.0);
      out_after = walk_bytes l.invariant tail.1;
      ends_after = walk_slots l.invariant tail.1;
    }

pub put_behind-size-requires : goal.put_behind-size-requires
put_behind-size-requires c =
    let found = sym c.next_piece.ensures ∙ c.in-Ok.is in
    let a = c.args in
    piece_ready (subst (λ (b : Bool). Walkable b a.fmt.now a.row.now a.kinds.now) c.if-prints.true c.requires) c.loop-c.c c.loop-c-test.true found

pub add_size-tally-requires : goal.add_size-tally-requires
add_size-tally-requires c =
    (c.put_behind-size.ensures.value.1, c.if-pieces-ge-MOST_PIECES.false, c.loop-c.invariant.below)

pub loop-c-smaller : goal.loop-c-smaller
loop-c-smaller c =
    let found = sym c.next_piece.ensures ∙ c.in-Ok.is in
    let a = c.args in
    let h = (advanced a.fmt.now a.kinds.now c.loop-c.c _ _ c.loop-c-test.true found).forward in
    omega arith

pub loop-c-preserved : goal.loop-c-preserved
loop-c-preserved c =
    let found = sym c.next_piece.ensures ∙ c.in-Ok.is in
    let l = c.loop-c in
    let m = c.max-largest.ensures ∙ ap (max l.largest) c.argument_of.ensures in
    elim c.if-prints.branch [
      | then-prints w ↦
          let put = w.put_behind-size.ensures in
          let add = w.add_size-tally.ensures in
          let counts = add.0 ∙ ap (λ (x : Size). added l.c.at x l.tally) put.value.0 in
          laying_as w.tally-is m w.out-is w.ends-is
          (laying_printed l.invariant c.loop-c-test.true c.if-pieces-ge-MOST_PIECES.false found w.if-prints.true counts add.1 put.out_after add.2
          (search rules) (search rules))
      | else-prints w ↦
          laying_as w.tally-is m w.out-is w.ends-is (laying_read l.invariant c.loop-c-test.true c.if-pieces-ge-MOST_PIECES.false found w.if-prints.false)
    ]

pub returns : goal.returns
returns c =
    let l = c.loop-c in
    let past = reached_end l.invariant.reached c.loop-c-test.false in
    record {
      walk = walk_answer l.invariant past.1 (sym past.0);
      out_after = walk_bytes l.invariant past.1;
      ends_after = walk_slots l.invariant past.1;
    }
