-- Each piece goes forward in the format and stays inside it. Assumes nothing.
use Rattle.std.specs.Prelude.{Err, Ok, Result}
use mathlib.Core.Path.{◌≡◌}
use mathlib.Core.Bool.{true, false}
use mathlib.Core.List.{List, [], ◌∷◌}
use Prim.Native.Nat.{ℕ, suc, ◌+◌, ◌-◌, ◌≤◌, ◌<◌}
use Prim.Native.Char.{code}
use native.Mathlib.Omega.{arith}
use lib.Dec.{eqb}
use lib.ListN.{length, get_or, drop, length-drop}
use Rattle.writing.proofs.Choose.{by_test}
use Rattle.kinds.specs.Kinds.{kind_in}
use Rattle.specifiers.specs.Specifier.{begins_with, specifier_at}
use Rattle.specifiers.proofs.Bytes.{begins-inside}
use Rattle.specifiers.proofs.Places.{SpecifierIn, specifier_in}
use Rattle.parsing.specs.declared.arguments.Index.{Index}
use Rattle.parsing.proofs.Named.{NamedIn}
use Rattle.parsing.specs.Texts.{text_length}
use Rattle.parsing.specs.Pieces.{passed, argument_at, after_specifier, after_index, element_at, piece_at}
use Rattle.parsing.specs.declared.Piece.{Piece}
use Rattle.parsing.specs.declared.Cursor.{Cursor}
use Rattle.parsing.proofs.Indexes.{argument_in_lem}
use Rattle.refusals.specs.Numbers.{Parsed}
use Rattle.parsing.specs.Pieces.{Step}
use Rattle.refusals.specs.declared.Refusal.{Refusal}
use Rattle.specifiers.specs.declared.Element.{Element}

-- From the cursor c to the cursor n behind one piece of a format of the length given.
pub record Advanced (len : ℕ) (c n : Cursor) : Type 0 where
  pub forward : c.at < n.at
  pub inside : n.at ≤ len

abbrev StepIn : ℕ → Cursor → Step → Type 0
StepIn len c (Ok (p, n)) = Advanced len c n
StepIn len c (Err refusal) = Unit {0}

pub text_in : (l : List ℕ) → text_length l ≤ length l
unfolding text_length
text_in [] = omega arith
text_in (b ∷ l) = by_test (λ (n : ℕ). n ≤ length (b ∷ l)) (eqb b (code "%")) _ _ (λ _. omega arith) (λ _. more (text_in l))
  where
    more : text_length l ≤ length l → suc (text_length l) ≤ length (b ∷ l)
    more h = omega arith

text_some : (l : List ℕ) → 0 < length l → begins_with (code "%") l ≡ false → 0 < text_length l
unfolding text_length
text_some [] h e = h
text_some (b ∷ l) h e = simp e (omega arith)

module _ (s ks : List ℕ) (c : Cursor) where
  element_in : (x : Result Index Refusal) → NamedIn (length ks) (c.at + 1) x → StepIn (length s) c (after_index s ks x)
  element_in (Ok x) h =
      let k = kind_in (get_or ks (x.argument - 1) 0) in
      read (specifier_at s x.next x.argument k) (specifier_in s x.next x.argument k) h.2
    where
      read : (t : Parsed Element) → SpecifierIn (length s) x.next t → c.at + 1 ≤ x.next → StepIn (length s) c (after_specifier x.argument x.count t)
      read (Ok (e, n)) i k = record { forward = omega arith; inside = i.1 }
      read (Err n) i k = tt
  element_in (Err n) h = tt

  -- `%%` and `%n`
  two_in : (b : ℕ) → begins_with b (drop (c.at + 1) s) ≡ true → Advanced (length s) c (passed c (c.at + 2))
  two_in b e = let i = begins-inside s (c.at + 1) b e in record { forward = omega arith; inside = omega arith }

  text-piece_in : c.at < length s → begins_with (code "%") (drop c.at s) ≡ false
      → Advanced (length s) c (passed c (c.at + text_length (drop c.at s)))
  text-piece_in h e =
      let n = length-drop c.at s in
      let some = text_some (drop c.at s) (omega arith) e in
      let fits = text_in (drop c.at s) in
      record { forward = omega arith; inside = omega arith }

  step_in : c.at < length s → StepIn (length s) c (piece_at s ks c)
  unfolding piece_at element_at
  step_in h =
      by_test (StepIn (length s) c) (begins_with (code "%") (drop c.at s)) _ _
      (λ _. by_test (StepIn (length s) c) (begins_with (code "%") (drop (c.at + 1) s)) _ _ (λ e. two_in (code "%") e)
      (λ _. by_test (StepIn (length s) c) (begins_with (code "n") (drop (c.at + 1) s)) _ _ (λ e. two_in (code "n") e)
      (λ _. element_in (argument_at s (length ks) c) (argument_in_lem s (length ks) c))))
      (λ e. text-piece_in h e)

  pub advanced : (p : Piece) (n : Cursor) → c.at < length s → piece_at s ks c ≡ Ok (p, n) → Advanced (length s) c n
  advanced p n h e = rw e at (step_in h)
