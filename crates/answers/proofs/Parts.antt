-- What the parts of an input are, and what is answered with them and without. Assumes nothing.
use mathlib.Core.Path.{◌≡◌, ap, ◌∙◌}
use mathlib.Core.List.{List}
use Prim.Native.Nat.{ℕ, ◌+◌, ◌-◌, ◌≤◌, ◌<◌}
use native.Mathlib.Omega.{arith}
use lib.ListN.{length, take, drop, length-drop}
use lib.Seq.{take_all}
use borrow.Author.Tests.{le-leb, lt-leb}
use Rattle.writing.specs.Text.{ascii}
use Rattle.answers.specs.Lines.{line}
use Rattle.answers.specs.Answers.{length_of, format_of, row_of, printed_answer, answer_text}

module _ (s : List ℕ) where
  pub no_length : length s < 2 → answer_text s ≡ line (ascii "no input")
  unfolding answer_text
  no_length h = simp (lt-leb 2 (length s) h)

  pub beyond : 2 ≤ length s → length s < 2 + length_of s → answer_text s ≡ line (ascii "no input")
  unfolding answer_text
  beyond h k = simp (le-leb 2 (length s) h, lt-leb (2 + length_of s) (length s) k)

  pub within : 2 ≤ length s → 2 + length_of s ≤ length s → answer_text s ≡ printed_answer (format_of s) (row_of s)
  unfolding answer_text
  within h k = simp (le-leb 2 (length s) h, le-leb (2 + length_of s) (length s) k)

  -- the parts that are lent to printing, by the length that was read
  pub format_part : (n : ℕ) → n ≡ length_of s → take (2 + n - 2) (drop 2 s) ≡ format_of s
  format_part n e =
      let f : 2 + n - 2 ≡ length_of s = omega (arith, e) in
      ap (λ (m : ℕ). take m (drop 2 s)) f

  pub row_part : (n : ℕ) → n ≡ length_of s → take (length s - (2 + n)) (drop (2 + n) s) ≡ row_of s
  row_part n e = take_all (length s - (2 + n)) (drop (2 + n) s) (omega (arith, length-drop (2 + n) s)) ∙ ap (λ (m : ℕ). drop (2 + m) s) e

pub ruleset parts = (no_length, beyond, within, format_part, row_part)
