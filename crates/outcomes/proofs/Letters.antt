-- The kinds of a row are known, and the letter of a listed element stands before its end in the format. Assumes nothing.
use Rattle.std.specs.Prelude.{Ok, Some, None, Option}
use mathlib.Core.Path.{◌≡◌, refl, sym, ap, subst, ◌∙◌}
use mathlib.Core.Bool.{Bool, true, false}
use mathlib.Core.List.{List, [], ◌∷◌, ◌++◌, append_assoc, append-nil}
use Prim.Native.Nat.{ℕ, ◌-◌, ◌≤◌, ◌<◌}
use Prim.Native.Char.{code}
use native.Mathlib.Omega.{arith}
use lib.ListN.{length, get_or, length-append}
use lib.Seq.{get_or_at}
use Rattle.writing.specs.Text.{has}
use Rattle.kinds.specs.Kinds.{unmarked, is_known}
use Rattle.kinds.specs.declared.letters.ConversionType.{ConversionType}
use Rattle.kinds.specs.declared.Kind.{Kind}
use Rattle.kinds.specs.declared.Kind.TheVariants as K
use Rattle.specifiers.specs.declared.Element.{Element}
use Rattle.parsing.specs.Listed.{Placed, placed, ended}
use Rattle.parsing.specs.declared.Piece.{Piece}
use Rattle.parsing.specs.declared.Piece.TheVariants.{Element as AnElement}
use Rattle.grammar.specs.Runs.{begins}
use Rattle.grammar.specs.Parts.{Written, choice_bytes, precision_bytes, Part, element_bytes, part_bytes, bytes_before}
use Rattle.grammar.specs.Elements.{kinds, IsLetter, plain, time}
use Rattle.grammar.specs.Pieces.{letters_of, capitals, PieceIs}
use Rattle.grammar.specs.Pieces as Q
use Rattle.grammar.proofs.Letters.{known_kind}
use Rattle.grammar.proofs.Listed.{IsPart, nth_part}
use Rattle.grammar.proofs.Readings.{Made, parts_of, read_whole, reads_bytes}
use Rattle.grammar.proofs.Steps.{KindsKnown}
use Rattle.rows.specs.Entry.{is_entry}
use Rattle.rows.specs.Row.{count_of, kinds_of, kind_byte_of, text_area, entry_at, is_row}
use Rattle.rows.proofs.Rows.{kinds-length, kind_byte, entry}
use Rattle.columns.proofs.Letters.{NamedBy}
use Rattle.outcomes.specs.Demand.{is_time}
use Rattle.outcomes.proofs.Unique.{never, letter-names}

-- every entry of a row has a kind
entry_known : (text : List ℕ) (k : Option Kind) (null : Bool) (v : ℕ) → is_entry text (record { kind = k; null = null; value = v }) ≡ true → is_known k ≡ true
unfolding is_entry
entry_known text (Some (K.Integer k)) null v e = refl
entry_known text (Some K.Float64) null v e = refl
entry_known text (Some K.Boolean) null v e = refl
entry_known text (Some K.Text) null v e = refl
entry_known text (Some K.Timestamp) null v e = refl
entry_known text None true v e = absurd (never e)
entry_known text None false v e = absurd (never e)

pub row-kinds : (row : List ℕ) → is_row row ≡ true → KindsKnown (kinds_of row)
unfolding entry_at
row-kinds row kept a h i =
    let few : a ≤ count_of row = omega (arith, kinds-length row kept) in
    let x = entry_at row a in
    let q = entry_known (text_area row) x.kind x.null x.value (entry row kept a h few) in
    ap (λ (k : ℕ). has kinds (unmarked k)) (kind_byte row a h few) ∙ known_kind (unmarked (kind_byte_of row a)) q

-- that the letter x is one byte b, by which the conversion is named
record Single (c : ConversionType) (u : Bool) (x : List ℕ) : Type 0 where
  b : ℕ
  is : x ≡ b ∷ []
  names : NamedBy b c u

one_byte : (c : ConversionType) (u : Bool) {x : List ℕ} → IsLetter x → is_time c ≡ false → begins (has (letters_of c)) x ≡ true
    → u ≡ begins (has capitals) x → Single c u x
one_byte c u (plain {l} h) n i q = record { b = l; is = refl; names = subst (NamedBy l c) (sym q) (letter-names c n l i).0 }
one_byte c u (time {t} {l} h k) n i q = absurd (never (sym (letter-names c n t i).1 ∙ h))

-- an element's last byte is the last of its letter
last_byte : (w : Written) (b : ℕ) → w.letter ≡ b ∷ [] → (front tail : List ℕ)
    → get_or ((front ++ element_bytes w) ++ tail) (length (front ++ element_bytes w) - 1) 0 ≡ b
last_byte w b e front tail =
    let head = front ++ (code "%" ∷ (choice_bytes w.choice ++ (w.flags ++ (w.width ++ precision_bytes w.precision)))) in
    let same : front ++ element_bytes w ≡ head ++ (b ∷ []) = simp (e, append_assoc) in
    let place : length (front ++ element_bytes w) - 1 ≡ length head = omega (arith, ap length same, length-append head (b ∷ [])) in
    ap (λ (l : List ℕ). get_or (l ++ tail) (length (front ++ element_bytes w) - 1) 0) same
    ∙ ap (λ (l : List ℕ). get_or l (length (front ++ element_bytes w) - 1) 0) (append_assoc head (b ∷ []) tail)
    ∙ get_or_at head b tail 0 _ (sym place)

-- The letter of an element of a format that is read to its end.
module _ (s ks : List ℕ) (known : KindsKnown ks) (end : ended s ks ≡ Ok tt) where
  pub letter_in : (i : ℕ) (d : Placed) → i < length (placed s ks) → (e : Element) → (get_or (placed s ks) i d).piece ≡ AnElement e
      → is_time e.conversion ≡ false → NamedBy (get_or s ((get_or (placed s ks) i d).to - 1) 0) e.conversion e.upper
  unfolding bytes_before
  letter_in i d h e q n = go (subst (λ (p : Piece). PieceIs ks (length (bytes_before x.before)) p x.part) q x.is) x.to whole
    where
      m : Made s ks known
      m = parts_of s ks known end

      x : IsPart ks (get_or (placed s ks) i d) m.parts
      x = nth_part (read_whole s ks known m.whole).lists i d h

      whole : s ≡ (bytes_before x.before ++ part_bytes x.part) ++ x.tail
      whole = reads_bytes m.whole.reads ∙ append-nil (bytes_before m.parts) ∙ x.bytes

      go : {p : Part} {to : ℕ} → PieceIs ks (length (bytes_before x.before)) (AnElement e) p → to ≡ length (bytes_before x.before ++ part_bytes p)
          → s ≡ (bytes_before x.before ++ part_bytes p) ++ x.tail → NamedBy (get_or s (to - 1) 0) e.conversion e.upper
      go {to = to} (Q.is_element {w = w} is) at all =
          let y = one_byte e.conversion e.upper is.letter n is.conversion is.upper in
          let b : get_or s (to - 1) 0 ≡ y.b =
          ap (λ (l : List ℕ). get_or l (to - 1) 0) all
          ∙ ap (λ (k : ℕ). get_or ((bytes_before x.before ++ element_bytes w) ++ x.tail) (k - 1) 0) at
          ∙ last_byte w y.b y.is (bytes_before x.before) x.tail in
          subst (λ (l : ℕ). NamedBy l e.conversion e.upper) (sym b) y.names
