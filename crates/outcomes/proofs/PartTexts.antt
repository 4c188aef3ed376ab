-- The texts of a format's pieces are those of its parts: text as it stands, `%` for `%%`, byte 10 for `%n`, and of an element the value it takes. What
-- demand 3 says of pieces, it says of parts. Of rows that keep their layout.
use Rattle.std.specs.Prelude.{Option, Ok}
use mathlib.Core.Path.{◌≡◌, refl, sym, ap, subst, ◌∙◌}
use mathlib.Core.Bool.{true, false}
use mathlib.Core.List.{List, [], ◌∷◌, ◌++◌, append_assoc}
use Prim.Native.Nat.{ℕ, ◌+◌, ◌-◌, ◌<◌}
use native.Mathlib.Omega.{arith}
use Prim.Native.Char.{code}
use lib.ListN.{length, get_or, take, drop, length-append}
use lib.Seq.{take-append_seam, drop-append_seam, drop-drop}
use Rattle.writing.specs.Text.{ascii, has}
use Rattle.kinds.specs.declared.letters.ConversionType.{ConversionType}
use Rattle.kinds.specs.declared.letters.ConversionType.TheVariants as C
use Rattle.parsing.specs.Listed.{Placed}
use Rattle.parsing.specs.declared.Piece.{Piece}
use Rattle.parsing.specs.declared.Piece.TheVariants.{Fixed}
use Rattle.grammar.specs.Runs.{begins}
use Rattle.grammar.specs.Parts.{Part, part_bytes, bytes_before}
use Rattle.grammar.specs.Pieces.{letters_of, PieceIs, Lists}
use Rattle.grammar.specs.Pieces as Q
use Rattle.grammar.specs.Readings.{Whole}
use Rattle.grammar.proofs.Listed.{lists_length, part_listed}
use Rattle.grammar.proofs.Readings.{read_whole, reads_bytes, parts_of}
use Rattle.rows.specs.Row.{entry_at, kinds_of, is_row}
use Rattle.elements.specs.Texts.{text_of}
use Rattle.columns.specs.Columns.{ReadsBack}
use Rattle.elements.specs.PieceTexts.{shown_entry, shown_piece, piece_text}
use Rattle.outcomes.specs.Demand.{cut_out, piece_of, is_time, DenotesValue, Demand3}
use Rattle.outcomes.specs.PartTexts.{PartText, PartTexts, nothing, one, PartDenotes}
use Rattle.outcomes.specs.Printed.{texts_of, texts, printed}
use Rattle.outcomes.proofs.Accepted.{fitted}
use Rattle.outcomes.proofs.Letters.{row-kinds}
use Rattle.outcomes.specs.declared.Measured.{Measured}

-- some bytes behind others
behind : (front x rest : List ℕ) → take (length x) (drop (length front) (front ++ (x ++ rest))) ≡ x
behind front x rest = ap (take (length x)) (drop-append_seam front (x ++ rest)) ∙ take-append_seam x rest

behind-one : (front : List ℕ) (a b : ℕ) (rest : List ℕ) → take 1 (drop (length front + 1) (front ++ (a ∷ b ∷ rest))) ≡ b ∷ []
behind-one front a b rest =
    ap (take 1) (sym (drop-drop 1 (length front) (front ++ (a ∷ b ∷ rest))) ∙ ap (drop 1) (drop-append_seam front (a ∷ b ∷ rest)))

module _ (s row : List ℕ) where
  texts-one : (ps : List Placed) (p : Placed) → texts_of s row (ps ++ (p ∷ [])) ≡ texts_of s row ps ++ (piece_text s row p.piece ∷ [])
  unfolding texts_of
  texts-one [] p = refl
  texts-one (q ∷ ps) p = ap (λ (ts : List (List ℕ)). piece_text s row q.piece ∷ ts) (texts-one ps p)

  part_text_lem : {x : Piece} {p : Part} (before : List Part) (rest : List ℕ) → PieceIs (kinds_of row) (length (bytes_before before)) x p
      → s ≡ bytes_before before ++ (part_bytes p ++ rest) → PartText row p (piece_text s row x)
  unfolding shown_piece
  part_text_lem before rest (Q.is_text_part {begin} {len} {t} e f) q =
      ap (λ (n : ℕ). take n (drop begin s)) f
      ∙ ap (λ (n : ℕ). take (length t) (drop n s)) e
      ∙ ap (λ (l : List ℕ). take (length t) (drop (length (bytes_before before)) l)) q
      ∙ behind (bytes_before before) t rest
  part_text_lem before rest (Q.is_percent {begin} {len} e f) q =
      ap (λ (n : ℕ). take n (drop begin s)) f
      ∙ ap (λ (n : ℕ). take 1 (drop n s)) e
      ∙ ap (λ (l : List ℕ). take 1 (drop (length (bytes_before before) + 1) l)) q
      ∙ behind-one (bytes_before before) (code "%") (code "%") rest
  part_text_lem before rest (Q.is_newline e) q = ap (λ (b : ℕ). b ∷ []) e
  part_text_lem before rest (Q.is_element {e} {w} is) q = record {
    holds = e;
    is = is;
    shown = ap (λ (a : ℕ). text_of (shown_entry row e (entry_at row a))) is.argument;
  }

  lists_texts : {ps : List Placed} {parts : List Part} (rest : List ℕ) → Lists (kinds_of row) ps parts → s ≡ bytes_before parts ++ rest
      → PartTexts row parts (texts_of s row ps)
  unfolding texts_of bytes_before
  lists_texts rest Q.nothing q = nothing
  lists_texts rest (Q.one {ps} {before} {x} {p} l is from to) q =
      let whole : s ≡ bytes_before before ++ (part_bytes p ++ rest) = q ∙ append_assoc (bytes_before before) (part_bytes p) rest in
      subst (PartTexts row (p ∷ before)) (sym (texts-one ps x))
      (one (piece_text s row x.piece) (lists_texts (part_bytes p ++ rest) l whole) (part_text_lem before rest is whole))

  -- Of a format made of parts.
  pub part_texts : {parts : List Part} → is_row row ≡ true → Whole s (kinds_of row) parts → PartTexts row parts (texts s row)
  unfolding texts
  part_texts kept w = lists_texts [] (read_whole s (kinds_of row) (row-kinds row kept) w).lists (reads_bytes w.reads)

-- What demand 3 says of a piece, it says of the part that the piece is.
no_time : (c : ConversionType) (l : List ℕ) → begins (has (letters_of c)) l ≡ true → begins (has (ascii "tT")) l ≡ false → is_time c ≡ false
no_time C.Boolean l h n = refl
no_time C.HexHash l h n = refl
no_time C.String l h n = refl
no_time C.Char l h n = refl
no_time (C.Integer r) l h n = refl
no_time C.DecimalFloat l h n = refl
no_time C.HexFloat l h n = refl
no_time (C.Time t) l h n = absurd (let q = sym n ∙ h in let z : ◌≡◌ {A = ℕ} 0 1 = cc in omega arith)

part_denotes : (s row : List ℕ) (to : ℕ) {at : ℕ} {x : Piece} {p : Part} (bytes : List ℕ) → PieceIs (kinds_of row) at x p → DenotesValue s row to x bytes
    → PartDenotes s row to p bytes
part_denotes s row to bytes (Q.is_text_part e f) d = tt
part_denotes s row to bytes (Q.is_percent e f) d = tt
part_denotes s row to bytes (Q.is_newline e) d = tt
part_denotes s row to bytes (Q.is_element {e} {w} is) d = λ n.
    subst (λ (p : Option ℕ). ReadsBack (get_or s (to - 1) 0) (entry_at row w.argument) p bytes) is.precision
    (subst (λ (a : ℕ). ReadsBack (get_or s (to - 1) 0) (entry_at row a) e.precision bytes) is.argument
    (d (no_time e.conversion w.letter is.conversion n)))

-- Demand 3 of a part p of a format, wherever it stands: as many ends stand before its own as parts, and of what they cut out holds what `PartDenotes`
-- says: nothing of text and of t and T, and of an element what `ReadsBack` says for its letter.
pub columns_denote : (s row : List ℕ) {n k : ℕ} {out ends : List ℕ} → is_row row ≡ true → Demand3 s row n k out ends
    → (behind before : List Part) (p : Part) → Whole s (kinds_of row) (behind ++ (p ∷ before))
    → PartDenotes s row (length (bytes_before (p ∷ before))) p (cut_out out ends (length before))
columns_denote s row {k = k} {out = out} {ends = ends} kept d behind before p w =
    let l = (read_whole s (kinds_of row) (row-kinds row kept) w).lists in
    let x = part_listed behind (record { piece = Fixed 0 0; from = 0; to = 0 }) l in
    let h : length before < k = omega (arith, d.count, lists_length l, length-append behind (p ∷ before)) in
    subst (λ (to : ℕ). PartDenotes s row to p (cut_out out ends (length before))) x.to
    (part_denotes s row (piece_of s row (length before)).to (cut_out out ends (length before)) x.is (d.columns (length before) h))

-- Together, of a call that prints: the format is made of parts, and demand 3 holds of each of them.
pub record PartsDenote (s row out ends : List ℕ) : Type 0 where
  pub parts : List Part
  pub whole : Whole s (kinds_of row) parts
  pub denote : (behind before : List Part) (p : Part) → parts ≡ behind ++ (p ∷ before)
      → PartDenotes s row (length (bytes_before (p ∷ before))) p (cut_out out ends (length before))

pub printed-columns : (s row : List ℕ) (room slots : ℕ) (m : Measured) {out ends : List ℕ} → printed s row room slots ≡ Ok m
    → Demand3 s row m.length m.pieces out ends → PartsDenote s row out ends
printed-columns s row room slots m e d =
    let a = (fitted s row room slots m e).accepts in
    let made = parts_of s (kinds_of row) (row-kinds row a.kept) a.finished in
    record {
      parts = made.parts;
      whole = made.whole;
      denote = λ behind before p q. columns_denote s row a.kept d behind before p (subst (Whole s (kinds_of row)) q made.whole);
    }
