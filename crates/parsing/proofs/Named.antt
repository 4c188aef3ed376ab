-- The argument that an element takes, named either way, is one of those that there are, and what follows stands at or behind the place read. Assumes nothing.
use Rattle.refusals.proofs.Parsed.{same_read}
use mathlib.Core.Path.{subst}
use Rattle.std.specs.Prelude.{Err, Ok, Result}
use mathlib.Core.Path.{◌≡◌}
use mathlib.Core.Bool.{true, false, not}
use mathlib.Core.List.{List, [], ◌∷◌}
use Prim.Native.Nat.{ℕ, ◌+◌, ◌-◌, ◌*◌, ◌≤◌, ◌<◌}
use Prim.Native.Char.{code}
use native.Mathlib.Nat.{le_trans}
use native.Mathlib.Omega.{arith}
use lib.Dec.{eqb, leb}
use lib.ListN.{length, drop}
use borrow.Author.Tests.{leb-true, eqb-false, not-true}
use Rattle.refusals.specs.Limits.{largest_number}
use Rattle.writing.proofs.Choose.{by_test, both}
use Rattle.numerals.specs.Digits.{number_from, number_of}
use Rattle.specifiers.specs.Params.{is_digit, is_param, leading_digits, number_taken, number_at}
use Rattle.specifiers.proofs.Numbers.{number_grows}
use Rattle.specifiers.specs.Specifier.{begins_with}
use Rattle.specifiers.proofs.Bytes.{begins-inside}
use Rattle.parsing.specs.Indexes.{among_kinds, is_index, index_of, index_at, same_index}
use Rattle.parsing.specs.declared.arguments.Index.{Index}
use Rattle.refusals.specs.Numbers.{Parsed}
use Rattle.refusals.specs.declared.Refusal.{Refusal}

-- digits that do not begin with 0 make a number of at least 1
pub number_pos : (l : List ℕ) → is_param false l ≡ true → 1 ≤ number_of 10 (leading_digits l)
unfolding leading_digits number_of number_from
number_pos [] e = absurd (let z : ◌≡◌ {A = ℕ} 0 1 = cc in omega arith)
number_pos (b ∷ l) e =
    let d = both (is_digit b) (not (eqb b (code "0"))) e in
    let low = leb-true (code "0") b (both (leb (code "0") b) (leb b (code "9")) d.0).0 in
    let other = eqb-false b (code "0") (not-true (eqb b (code "0")) d.1) in
    simp d.0 (le_trans (omega arith) (number_grows (0 * 10 + (b - code "0")) (leading_digits l)))

-- the two parts of an index
module _ (s : List ℕ) (at : ℕ) (e : is_index s at ≡ true) where
  parts : (is_param false (drop at s) ≡ true) × (begins_with (code "$") (drop (at + length (leading_digits (drop at s))) s) ≡ true)
  parts = both (is_param false (drop at s)) (begins_with (code "$") (drop (at + length (leading_digits (drop at s))) s)) e

  pub index_digit : is_param false (drop at s) ≡ true
  index_digit = parts.0

  -- the place behind an index's digits is that of its `$`
  pub index_inside : (n next : ℕ) → number_at s at ≡ Ok (n, next) → next < length s
  unfolding number_at number_taken
  index_inside n next =
      by_test (λ (t : Parsed ℕ). t ≡ Ok (n, next) → next < length s) (leb (number_of 10 (leading_digits (drop at s))) largest_number) _ _
      (λ _ q. behind q (begins-inside s (at + length (leading_digits (drop at s))) (code "$") parts.1))
      (λ _ q. absurd (let z : ◌≡◌ {A = ℕ} 0 1 = cc in omega arith))
    where
      behind : {m i : ℕ} → ◌≡◌ {A = Parsed ℕ} (Ok (m, i)) (Ok (n, next)) → i < length s → next < length s
      behind {m} {i} q h = subst (λ (j : ℕ). j < length s) (same_read q).1 h

-- An argument from 1 up to the number of kinds, and a place from `at` on.
abbrev pub NamedIn : ℕ → ℕ → Result Index Refusal → Type 0
NamedIn kinds at (Ok i) = (1 ≤ i.argument) × (i.argument ≤ kinds) × (at ≤ i.next)
NamedIn kinds at (Err refusal) = Unit {0}

module _ (kinds at : ℕ) where
  within_in : (a next count : ℕ) → 1 ≤ a → at ≤ next → NamedIn kinds at (among_kinds kinds a next count)
  within_in a next count h k = by_test (NamedIn kinds at) (leb a kinds) _ _ (λ e. (h, leb-true a kinds e, k)) (λ _. tt)

  pub index_in : (s : List ℕ) (count : ℕ) → NamedIn kinds at (index_at s kinds at count)
  unfolding index_at number_at number_taken
  index_in s count =
      let d = leading_digits (drop at s) in
      by_test (NamedIn kinds at) (begins_with (code "$") (drop at s)) _ _ (λ _. tt)
      (λ _. by_test (NamedIn kinds at) (is_index s at) _ _
      (λ e. by_test (λ (t : Parsed ℕ). NamedIn kinds at (index_of t kinds count)) (leb (number_of 10 d) largest_number) _ _
      (λ _. within_in (number_of 10 d) (at + length d + 1) count (number_pos (drop at s) (index_digit s at e)) (omega arith)) (λ _. tt))
      (λ _. within_in (count + 1) at (count + 1) (omega arith) (omega arith)))

  pub same_in : (last next count : ℕ) → at ≤ next → NamedIn kinds at (same_index kinds last next count)
  same_in last next count h =
      by_test (NamedIn kinds at) (eqb last 0) _ _ (λ _. tt)
      (λ e. let n = eqb-false last 0 e in within_in last next count (omega arith) h)
