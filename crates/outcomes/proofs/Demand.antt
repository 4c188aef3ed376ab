-- Demand 3, whole, of an output and ends over whose starts the text and its ends are laid. Assumes nothing.
use Rattle.std.specs.Prelude.{None}
use mathlib.Core.Path.{◌≡◌, refl, sym, ap, subst, ◌∙◌}
use mathlib.Core.Bool.{true, false}
use mathlib.Core.List.{List, [], ◌++◌}
use Prim.Native.Nat.{ℕ, zero, suc, ◌+◌, ◌-◌, ◌≤◌, ◌<◌}
use native.Mathlib.Omega.{arith}
use lib.ListN.{length, get_or, take, drop, get_or-append}
use lib.Seq.{take_at, take-length}
use Rattle.writing.specs.Laid.{laid}
use Rattle.parsing.specs.Covers.{PieceIn}
use Rattle.parsing.specs.Listed.{Placed, placed}
use Rattle.parsing.specs.declared.Piece.{Piece}
use Rattle.parsing.specs.declared.Piece.TheVariants.{Fixed, Byte, Element as AnElement}
use Rattle.rows.specs.Row.{kinds_of, entry_at, named_text, is_row}
use Rattle.rows.proofs.Rows.{AllBytes}
use Rattle.columns.proofs.Columns.{reads-back}
use Rattle.columns.proofs.Letters.{NamedBy}
use Rattle.elements.proofs.PieceTexts.{found_suited}
use Rattle.elements.specs.PieceTexts.{shown_piece, piece_text, piece_stop}
use Rattle.outcomes.specs.Printed.{texts, joined, printed_text, ends_from}
use Rattle.outcomes.specs.Demand.{end_before, cut_out, piece_of, is_time, DenotesValue, Demand3}
use Rattle.outcomes.proofs.Joined.{ends_length, nth_end, nth_text, between}
use Rattle.parsing.proofs.Cover.{cover}
use Rattle.parsing.proofs.Sound.{all-inside}
use Rattle.specifiers.specs.declared.Element.{Element}
use Rattle.outcomes.proofs.Letters.{row-kinds, letter_in}
use Rattle.outcomes.proofs.Texts.{texts-length, texts_nth, no_stop}
use Rattle.outcomes.proofs.Accepted.{Accepts}

-- a piece that is printed, read back by the letter before its end
module _ (s row : List ℕ) (kept : is_row row ≡ true) (bytes : AllBytes row) (to : ℕ) where
  piece-reads : (p : Piece) → PieceIn s (kinds_of row) p → piece_stop s row p ≡ None
      → ((e : Element) → p ≡ AnElement e → is_time e.conversion ≡ false → NamedBy (get_or s (to - 1) 0) e.conversion e.upper)
      → DenotesValue s row to p (piece_text s row p)
  unfolding shown_piece
  piece-reads (Fixed begin len) i e letter = tt
  piece-reads (Byte b) i e letter = tt
  piece-reads (AnElement x) i e letter = λ n.
      reads-back row bytes x (found_suited s row x kept i) (named_text row (entry_at row x.argument)) e (get_or s (to - 1) 0) (letter x refl n)

module _ (s row : List ℕ) (n k : ℕ) (ok : Accepts s row n k) (d e : List ℕ) where
  as_many : k ≡ length (texts s row)
  unfolding texts
  as_many = ok.pieces ∙ sym (texts-length s row (placed s (kinds_of row)))

  end_of : (i : ℕ) → i < k → get_or (laid e (ends_from 0 (texts s row))) i 0 ≡ length (joined (take (suc i) (texts s row)))
  unfolding laid
  end_of i h =
      let l = texts s row in
      let j : i < length l = omega (arith, as_many) in
      get_or-append (ends_from 0 l) (drop (length (ends_from 0 l)) e) 0 i (omega (arith, ends_length 0 l))
      ∙ nth_end 0 l i j
      ∙ zero_plus (length (joined (take (suc i) l)))
    where
      zero_plus : (m : ℕ) → 0 + m ≡ m
      zero_plus m = omega arith

  end_before_lem : (i : ℕ) → i ≤ k → end_before (laid e (ends_from 0 (texts s row))) i ≡ length (joined (take i (texts s row)))
  unfolding joined
  end_before_lem zero h = refl
  end_before_lem (suc i) h = end_of i (omega arith)

  blank : Placed
  blank = record { piece = Fixed 0 0; from = 0; to = 0 }

  nth : (i : ℕ) → i < k → get_or (texts s row) i [] ≡ piece_text s row (piece_of s row i).piece
  unfolding texts blank
  nth i h = texts_nth s row (placed s (kinds_of row)) i blank (omega (arith, ok.pieces))

  text_of : (i : ℕ) → i < k → cut_out (laid d (printed_text s row)) (laid e (ends_from 0 (texts s row))) i ≡ piece_text s row (piece_of s row i).piece
  unfolding laid printed_text
  text_of i h =
      let l = texts s row in
      let out = joined l ++ drop (length (joined l)) d in
      let ends = laid e (ends_from 0 l) in
      let j : i < length l = omega (arith, as_many) in
      let a = length (joined (take i l)) in
      let w : length (joined (take (suc i) l)) - a ≡ length (get_or l i []) = omega (arith, between l i j) in
      ap (λ (b : ℕ). take (b - end_before ends i) (drop (end_before ends i) out)) (end_of i h)
      ∙ ap (λ (b : ℕ). take (length (joined (take (suc i) l)) - b) (drop b out)) (end_before_lem i (omega arith))
      ∙ ap (λ (m : ℕ). take m (drop a out)) w
      ∙ nth_text l i (drop (length (joined l)) d) j
      ∙ nth i h

  last_end : n ≡ end_before (laid e (ends_from 0 (texts s row))) k
  unfolding printed_text
  last_end =
      let l = texts s row in
      let all = ap (λ (m : ℕ). take m l) as_many ∙ take-length l in
      ok.total ∙ sym (end_before_lem k (omega arith) ∙ ap (λ (u : List (List ℕ)). length (joined u)) all)

  whole-text : take n (laid d (printed_text s row)) ≡ joined (texts s row)
  unfolding laid printed_text
  whole-text = take_at (joined (texts s row)) (drop (length (joined (texts s row))) d) n (sym ok.total)

  reads : AllBytes row → (i : ℕ) → i < k
      → DenotesValue s row (piece_of s row i).to (piece_of s row i).piece (piece_text s row (piece_of s row i).piece)
  unfolding blank
  reads bytes i h =
      let ks = kinds_of row in
      let j : i < length (placed s ks) = omega (arith, ok.pieces) in
      piece-reads s row ok.kept bytes (piece_of s row i).to (piece_of s row i).piece (all-inside s ks i blank j)
      (no_stop s row (placed s ks) i blank ok.unstopped j) (letter_in s ks (row-kinds row ok.kept) ok.finished i blank j)

  over_starts : AllBytes row → Demand3 s row n k (laid d (printed_text s row)) (laid e (ends_from 0 (texts s row)))
  over_starts bytes = record {
    cover = cover s (kinds_of row) ok.finished;
    count = ok.pieces;
    sums = end_of;
    total = last_end;
    whole = whole-text;
    cuts = text_of;
    columns = λ i h. subst (DenotesValue s row (piece_of s row i).to (piece_of s row i).piece) (sym (text_of i h)) (reads bytes i h);
  }

  -- Demand 3, of every format and row that print.
  pub demand : (out ends : List ℕ) → out ≡ laid d (printed_text s row) → ends ≡ laid e (ends_from 0 (texts s row)) → AllBytes row
      → Demand3 s row n k out ends
  demand out ends o q bytes = rw o (rw q (over_starts bytes))
