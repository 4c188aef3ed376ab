-- The text of every piece of a format, for a row that keeps its layout, is shorter than 2 to the 32nd bytes. Assumes nothing.
use Rattle.std.specs.Prelude.{Err, Ok, Result}
use mathlib.Core.Path.{◌≡◌}
use mathlib.Core.Bool.{true}
use mathlib.Core.List.{List, []}
use Prim.Native.Nat.{ℕ, zero, suc, ◌+◌, ◌-◌, ◌*◌, ◌/◌, ◌%◌, ◌^◌, ◌≤◌, ◌<◌}
use Prim.Native.Char.{code}
use native.Mathlib.Omega.{arith}
use lib.Dec.{ltb}
use lib.ListN.{length, get_or, take, drop, length-take, length-drop}
use Rattle.refusals.specs.Limits.{most_format, most_pieces}
use Rattle.writing.proofs.Choose.{by_test}
use Rattle.kinds.specs.Kinds.{kind_in}
use Rattle.specifiers.specs.Specifier.{begins_with, specifier_at}
use Rattle.parsing.specs.declared.arguments.Index.{Index}
use Rattle.parsing.specs.Texts.{text_length}
use Rattle.parsing.specs.Pieces.{start, argument_at, after_specifier, after_index, element_at, piece_at, Step}
use Rattle.parsing.specs.Listed.{Placed, and_rest, placed_from, placed}
use Rattle.parsing.specs.declared.Cursor.{Cursor}
use Rattle.rows.specs.Row.{count_of, kinds_of, text_area, entry_at, named_text, is_row}
use Rattle.rows.specs.declared.entries.Entry.{Entry}
use Rattle.rows.proofs.Rows.{AllBytes, value-below, row_shape}
use Rattle.elements.specs.PieceTexts.{shown_piece, piece_text}
use Rattle.outcomes.specs.Printed.{texts_of, texts}
use Rattle.bounds.proofs.Elements.{SpecifierLimited, specifier_limited}
use Rattle.bounds.proofs.Frames.{Short, Body}
use Rattle.bounds.proofs.Texts.{element-short}
use Rattle.refusals.specs.Numbers.{Parsed}
use Rattle.refusals.specs.declared.Refusal.{Refusal}
use Rattle.specifiers.specs.declared.Element.{Element}

part_length : (n at : ℕ) (t : List ℕ) → length (take n (drop at t)) ≤ length t
part_length n at t = omega (arith, length-take n (drop at t), length-drop at t)

module _ (s row : List ℕ) (few : length s ≤ most_format) (kept : is_row row ≡ true) (bytes : AllBytes row) where
  fixed_short : (n at : ℕ) → Short (take n (drop at s))
  fixed_short n at = omega (arith, part_length n at s)

  named_body : (x : Entry) → Body (named_text row x)
  unfolding named_text
  named_body x =
      let v = x.value in
      omega (arith, part_length (v / 2 ^ 32) (v % 2 ^ 32) (text_area row), length-drop (6 + 9 * count_of row) row, row_shape row kept)

  abbrev StepShort : Step → Type 0
  StepShort (Ok (p, n)) = Short (piece_text s row p)
  StepShort (Err refusal) = Unit {0}

  specifier_short : (a count : ℕ) (t : Parsed Element) → SpecifierLimited t → StepShort (after_specifier a count t)
  unfolding shown_piece entry_at
  specifier_short a count (Ok (e, at)) h =
      let x = entry_at row e.argument in
      element-short e h x (value-below row e.argument bytes) (named_text row x) (named_body x)
  specifier_short a count (Err refusal) h = tt

  index_short : (ks : List ℕ) (x : Result Index Refusal) → StepShort (after_index s ks x)
  index_short ks (Ok x) =
      let k = kind_in (get_or ks (x.argument - 1) 0) in
      specifier_short x.argument x.count (specifier_at s x.next x.argument k) (specifier_limited s x.argument k x.next)
  index_short ks (Err refusal) = tt

  step_short : (ks : List ℕ) (c : Cursor) → StepShort (piece_at s ks c)
  unfolding piece_at element_at shown_piece
  step_short ks c =
      by_test StepShort (begins_with (code "%") (drop c.at s)) _ _
      (λ _. by_test StepShort (begins_with (code "%") (drop (c.at + 1) s)) _ _ (λ _. fixed_short 1 (c.at + 1))
      (λ _. by_test StepShort (begins_with (code "n") (drop (c.at + 1) s)) _ _ (λ _. omega arith)
      (λ _. index_short ks (argument_at s (length ks) c))))
      (λ _. fixed_short (text_length (drop c.at s)) c.at)

  abbrev AllShort : List Placed → Type 0
  AllShort ps = (k : ℕ) → Short (get_or (texts_of s row ps) k [])

  texts-short : (ks : List ℕ) (n : ℕ) (c : Cursor) → AllShort (placed_from n (piece_at s ks) (length s) c)
  unfolding placed_from texts_of
  texts-short ks zero c = λ k. omega arith
  texts-short ks (suc n) c =
      by_test AllShort (ltb c.at (length s)) _ _ (λ _. go (piece_at s ks c) (step_short ks c) (texts-short ks n)) (λ _ k. omega arith)
    where
      go : (t : Step) → StepShort t → ((m : Cursor) → AllShort (placed_from n (piece_at s ks) (length s) m))
          → AllShort (and_rest t c (λ m. placed_from n (piece_at s ks) (length s) m))
      go (Ok (p, m)) h rest zero = h
      go (Ok (p, m)) h rest (suc k) = rest m k
      go (Err refusal) h rest k = omega arith

pub text-short : (s row : List ℕ) → length s ≤ most_format → is_row row ≡ true → AllBytes row → (k : ℕ) → length (get_or (texts s row) k []) < 2 ^ 32
unfolding texts placed
text-short s row few kept bytes k = texts-short s row few kept bytes (kinds_of row) most_pieces start k
