-- `words::word_at` meets its contract. Assumes nothing.
use Prim.Native.Nat.{◌+◌, ◌-◌}
use mathlib.Core.Path.{◌≡◌, ap, ◌∙◌}
use lib.ListN.{take, drop}
use native.Mathlib.Omega.{arith}
use borrow.Author.Rules.{rules}
use Rattle.words.proofs.LittleEndian.{word_below, read_word}
use Rattle.words.proofs.word_at.Goals as goal

pub returns : goal.returns
returns g c =
    let s = c.args.s.now in
    let n = g.row.N in
    let at = c.args.at in
    let m : (at + n) - at ≡ n = omega arith in
    let e = c.from_le_bytes.ensures ∙ read_word n at s _ c.requires.0 c.requires.1 (c.copy_from_slice.ensures.after ∙ ap (λ k. take k (drop at s)) m) in
    (e, rw e (word_below n s at (λ i. search rules) c.requires.1))
