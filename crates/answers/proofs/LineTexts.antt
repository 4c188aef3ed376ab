-- How long numbers are, and lines of ends one by one. Assumes nothing.
use mathlib.Core.Path.{◌≡◌, refl, sym, ap, ◌∙◌}
use mathlib.Core.Bool.{false}
use mathlib.Core.List.{List, [], ◌∷◌, ◌++◌, append_assoc, append-nil}
use Prim.Native.Char.{code}
use Prim.Native.Nat.{ℕ, ◌+◌, ◌^◌, ◌≤◌, ◌<◌}
use native.Mathlib.Numerals.{add-one}
use native.Mathlib.Omega.{arith}
use lib.Dec.{lit≤}
use lib.ListN.{length, get_or, take, length-append}
use lib.Seq.{take-suc}
use Rattle.writing.proofs.Laid.{laid_more}
use Rattle.numerals.specs.Digits.{decimal}
use Rattle.numerals.proofs.Digits.{places_le, length-numeral}
use Rattle.answers.specs.Lines.{line, numbers_line, end_lines}

pub at_most_ten : (n : ℕ) → n < 2 ^ 32 → length (decimal n) ≤ 10
at_most_ten n h = omega (arith, length-numeral false 10 n, places_le 10 9 n (lit≤ tt) (omega arith))

pub line_length : (t : List ℕ) → length (line t) ≡ length t + 1
line_length t = length-append t (10 ∷ [])

-- a line of numbers, part by part
pub numbers-line : (word : List ℕ) (a b : ℕ) → ((word ++ decimal a) ++ (code " " ∷ [])) ++ line (decimal b) ≡ numbers_line word a b
numbers-line word a b = simp append_assoc

lines_append : (es fs : List ℕ) → end_lines (es ++ fs) ≡ end_lines es ++ end_lines fs
unfolding end_lines
lines_append [] fs = refl
lines_append (e ∷ es) fs =
    ap (λ (l : List ℕ). line (decimal e) ++ l) (lines_append es fs) ∙ sym (append_assoc (line (decimal e)) (end_lines es) (end_lines fs))

-- one more of a list of ends
pub lines_next : (es : List ℕ) (k : ℕ) → k < length es → end_lines (take k es) ++ line (decimal (get_or es k 0)) ≡ end_lines (take (k + 1) es)
unfolding end_lines
lines_next es k h =
    let e = get_or es k 0 in
    sym
    (ap (λ (n : ℕ). end_lines (take n es)) (add-one k)
    ∙ ap end_lines (take-suc es k 0 h)
    ∙ lines_append (take k es) (e ∷ [])
    ∙ ap (λ (l : List ℕ). end_lines (take k es) ++ l) (append-nil (line (decimal e))))

-- what the writers of a line's end need
pub ruleset ended = (line_length, laid_more)
