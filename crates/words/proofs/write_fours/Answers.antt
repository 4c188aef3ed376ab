-- `words::write_fours` meets its contract. Assumes nothing.
use Prim.Native.Nat.{ℕ, ◌+◌, ◌*◌, ◌≤◌}
use mathlib.Core.Path.{◌≡◌, sym, ap, ◌∙◌}
use lib.ListN.{length, get_or, take}
use lib.Seq.{length-take-le}
use native.Mathlib.Omega.{arith}
use Rattle.writing.specs.Laid.{laid}
use Rattle.writing.proofs.Laid.{laid_next, length-laid}
use Rattle.words.specs.LittleEndian.{bytes_of, all_bytes}
use Rattle.words.proofs.Fours.{bytes_length, bytes_next}
use Rattle.words.proofs.write_fours.Goals as goal

pub loop-k-preserved : goal.loop-k-preserved
loop-k-preserved c =
    let l = c.loop-k in
    let d = c.args.out.now in
    let s = c.args.numbers.now in
    let so-far = all_bytes (take l.k s) in
    let t : length so-far ≡ 4 * l.k = bytes_length (take l.k s) ∙ ap (λ (m : ℕ). 4 * m) (length-take-le l.k s (omega arith)) in
    let o =
    laid_next d so-far (bytes_of 4 (get_or s l.k 0)) l.out c.write_four.new.out (4 * l.k) l.invariant.0 t c.write_four.ensures
    ∙ ap (laid d) (sym (bytes_next s l.k (omega arith))) in
    let n : length (all_bytes (take (l.k + 1) s)) ≤ length d =
    omega (arith, bytes_length (take (l.k + 1) s), length-take-le (l.k + 1) s (omega arith), c.requires) in
    (o, ap length o ∙ length-laid d (all_bytes (take (l.k + 1) s)) n)
