-- A piece that was found lies inside the format, and an element's argument is one of those that there are. Assumes nothing.
use Rattle.std.specs.Prelude.{None, Option, Some, Err, Ok, Result, Bool}
use mathlib.Core.Path.{◌≡◌, refl, ap, ◌∙◌}
use mathlib.Core.List.{List}
use Prim.Native.Nat.{ℕ, zero, suc, ◌+◌, ◌-◌, ◌≤◌, ◌<◌}
use Prim.Native.Char.{code}
use native.Mathlib.Omega.{arith}
use lib.Dec.{ltb}
use lib.ListN.{length, get_or, drop}
use borrow.Author.Tests.{ltb-true}
use Rattle.refusals.specs.Limits.{most_pieces}
use Rattle.writing.proofs.Choose.{by_test}
use Rattle.kinds.specs.Kinds.{kind_in, fit_in}
use Rattle.kinds.specs.declared.Kind.{Kind}
use Rattle.specifiers.specs.Specifier.{begins_with, letter_at, fitted, after_letter, parts_at, after_parts, specifier_at}
use Rattle.specifiers.specs.declared.Parts.{Parts}
use Rattle.parsing.specs.declared.arguments.Index.{Index}
use Rattle.parsing.proofs.Named.{NamedIn}
use Rattle.parsing.specs.Pieces.{start, argument_at, after_specifier, after_index, element_at, piece_at}
use Rattle.parsing.specs.Listed.{Placed, and_rest, placed_from, placed}
use Rattle.parsing.specs.Covers.{PieceIn}
use Rattle.parsing.specs.declared.Piece.{Piece}
use Rattle.parsing.specs.declared.Cursor.{Cursor}
use Rattle.parsing.proofs.Indexes.{argument_in_lem}
use Rattle.parsing.proofs.Progress.{advanced}
use Rattle.refusals.specs.Numbers.{Parsed}
use Rattle.parsing.specs.Pieces.{Step}
use Rattle.refusals.specs.declared.Refusal.{Refusal}
use Rattle.kinds.specs.declared.letters.ConversionType.{ConversionType}
use Rattle.specifiers.specs.declared.Element.{Element}
use Rattle.kinds.specs.declared.Form.{Form}

-- The element read is that of the argument asked for, and has the form of its kind.
abbrev Of : ℕ → Option Kind → Parsed Element → Type 0
Of a k (Ok (e, at)) = (e.argument ≡ a) × (fit_in e.conversion k ≡ Some e.form)
Of a k (Err refusal) = Unit {0}

module _ (s : List ℕ) (a : ℕ) (k : Option Kind) where
  of_letter : (x : Parts) (t : Parsed (ConversionType × Bool)) → Of a k (after_letter a k x t)
  of_letter x (Ok ((c, u), at)) = of_fit (fit_in c k) refl
    where
      of_fit : (f : Option Form) → fit_in c k ≡ f → Of a k (fitted a x c u at f)
      of_fit (Some f) q = (refl, q)
      of_fit None q = tt
  of_letter x (Err n) = tt

  of_parts : (t : Parsed Parts) → Of a k (after_parts s a k t)
  of_parts (Ok (x, at)) = of_letter x (letter_at s at)
  of_parts (Err n) = tt

  specifier_of : (at : ℕ) → Of a k (specifier_at s at a k)
  unfolding specifier_at
  specifier_of at = of_parts (parts_at s at)

abbrev Sound : List ℕ → List ℕ → Step → Type 0
Sound s ks (Ok (p, n)) = n.at ≤ length s → PieceIn s ks p
Sound s ks (Err refusal) = Unit {0}

module _ (s ks : List ℕ) (c : Cursor) where
  element_sound : (x : Result Index Refusal) → NamedIn (length ks) (c.at + 1) x → Sound s ks (after_index s ks x)
  element_sound (Ok x) h =
      let k = kind_in (get_or ks (x.argument - 1) 0) in
      read (specifier_at s x.next x.argument k) (specifier_of s x.argument k x.next) h.0 h.1
    where
      read : (t : Parsed Element) → Of x.argument (kind_in (get_or ks (x.argument - 1) 0)) t → 1 ≤ x.argument → x.argument ≤ length ks
          → Sound s ks (after_specifier x.argument x.count t)
      read (Ok (e, n)) q l m = λ _.
          let form = ap (λ (i : ℕ). fit_in e.conversion (kind_in (get_or ks (i - 1) 0))) q.0 ∙ q.1 in
          (omega (arith, q.0), omega (arith, q.0), form)
      read (Err n) q l m = tt
  element_sound (Err n) h = tt

  step_sound : Sound s ks (piece_at s ks c)
  unfolding piece_at element_at
  step_sound =
      by_test (Sound s ks) (begins_with (code "%") (drop c.at s)) _ _
      (λ _. by_test (Sound s ks) (begins_with (code "%") (drop (c.at + 1) s)) _ _ (λ _ h. omega arith)
      (λ _. by_test (Sound s ks) (begins_with (code "n") (drop (c.at + 1) s)) _ _ (λ _ h. tt)
      (λ _. element_sound (argument_at s (length ks) c) (argument_in_lem s (length ks) c))))
      (λ _ h. h)

  pub sound : (p : Piece) (n : Cursor) → c.at < length s → piece_at s ks c ≡ Ok (p, n) → PieceIn s ks p
  sound p n h e = (rw e at step_sound) (advanced s ks c p n h e).inside

-- So it is with every piece that is listed.
module _ (s ks : List ℕ) where
  abbrev AllIn : Placed → List Placed → Type 0
  AllIn d l = (i : ℕ) → i < length l → PieceIn s ks (get_or l i d).piece

  inside-from : (n : ℕ) (c : Cursor) (d : Placed) → AllIn d (placed_from n (piece_at s ks) (length s) c)
  unfolding placed_from
  inside-from zero c d = λ i h. absurd (omega arith)
  inside-from (suc n) c d =
      by_test (AllIn d) (ltb c.at (length s)) _ _
      (λ h. go (piece_at s ks c) refl (ltb-true c.at (length s) h) (λ m. inside-from n m d)) (λ _ i h. absurd (omega arith))
    where
      go : (t : Step) → piece_at s ks c ≡ t → c.at < length s → ((m : Cursor) → AllIn d (placed_from n (piece_at s ks) (length s) m))
          → AllIn d (and_rest t c (λ m. placed_from n (piece_at s ks) (length s) m))
      go (Ok (p, m)) e h ih zero k = sound s ks c p m h e
      go (Ok (p, m)) e h ih (suc i) k = ih m i (omega arith)
      go (Err refusal) e h ih i k = absurd (omega arith)

  pub all-inside : (i : ℕ) (d : Placed) → i < length (placed s ks) → PieceIn s ks (get_or (placed s ks) i d).piece
  unfolding placed
  all-inside i d h = inside-from most_pieces start d i h
