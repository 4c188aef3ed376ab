-- The i-th piece that is listed, and the part that it is. Assumes nothing.
use mathlib.Core.Path.{◌≡◌, refl, sym, ap, subst, ◌∙◌}
use mathlib.Core.List.{List, [], ◌∷◌, ◌++◌, append_assoc, append-nil}
use Prim.Native.Nat.{ℕ, ◌<◌, max}
use native.Mathlib.Decide.{dec_lt}
use native.Mathlib.Omega.{arith}
use lib.ListN.{length, get_or, length-append, get_or-append}
use lib.Seq.{get_or_at}
use Rattle.parsing.specs.Check.{argument_of, largest_of}
use Rattle.parsing.specs.Listed.{Placed}
use Rattle.parsing.specs.declared.Piece.{Piece}
use Rattle.parsing.proofs.Cover.{largest-one}
use Rattle.grammar.specs.Parts.{Part, part_bytes, bytes_before, argument_in, largest_in}
use Rattle.grammar.specs.Pieces.{PieceIs, Lists}
use Rattle.grammar.specs.Pieces as Q

-- A piece, the part that it is, the parts before it and the bytes behind.
pub record IsPart (ks : List ℕ) (x : Placed) (parts : List Part) : Type 0 where
  pub before : List Part
  pub part : Part
  pub tail : List ℕ
  pub is : PieceIs ks (length (bytes_before before)) x.piece part
  pub to : x.to ≡ length (bytes_before (part ∷ before))
  pub bytes : bytes_before parts ≡ bytes_before (part ∷ before) ++ tail

pub nth_part : {ks : List ℕ} {ps : List Placed} {parts : List Part} → Lists ks ps parts → (i : ℕ) (d : Placed) → i < length ps → IsPart ks (get_or ps i d) parts
unfolding bytes_before
nth_part Q.nothing i d h = absurd (omega arith)
nth_part {ks} (Q.one {ps} {before} {x} {p} w is from to) i d h = elim (dec_lt i (length ps)) [
  | yes l ↦
      let r = nth_part w i d l in
      let e : get_or (ps ++ (x ∷ [])) i d ≡ get_or ps i d = get_or-append ps (x ∷ []) d i l in
      subst (λ (y : Placed). IsPart ks y (p ∷ before)) (sym e)
      (record {
        before = r.before;
        part = r.part;
        tail = r.tail ++ part_bytes p;
        is = r.is;
        to = r.to;
        bytes = ap (λ (l : List ℕ). l ++ part_bytes p) r.bytes ∙ append_assoc (bytes_before (r.part ∷ r.before)) r.tail (part_bytes p);
      })
  | no n ↦
      let e : get_or (ps ++ (x ∷ [])) i d ≡ x = get_or_at ps x [] d i (omega (arith, length-append ps (x ∷ []))) in
      subst (λ (y : Placed). IsPart ks y (p ∷ before)) (sym e)
      (record { before = before; part = p; tail = []; is = is; to = to; bytes = sym (append-nil (bytes_before before ++ part_bytes p)) })
]

-- As many pieces are listed as there are parts, and their largest argument is that of the parts.
pub lists_length : {ks : List ℕ} {ps : List Placed} {parts : List Part} → Lists ks ps parts → length ps ≡ length parts
lists_length Q.nothing = refl
lists_length (Q.one {ps} {before} {x} w is from to) = omega (arith, length-append ps (x ∷ []), lists_length w)

-- The piece that is listed for a part: as many pieces stand before it as parts.
pub record ListedAs (ks : List ℕ) (x : Placed) (before : List Part) (p : Part) : Type 0 where
  pub is : PieceIs ks (length (bytes_before before)) x.piece p
  pub to : x.to ≡ length (bytes_before (p ∷ before))

pub part_listed : {ks : List ℕ} (behind : List Part) {before : List Part} {p : Part} {ps : List Placed} (d : Placed) → Lists ks ps (behind ++ (p ∷ before))
    → ListedAs ks (get_or ps (length before) d) before p
part_listed {ks} [] {before} {p} d (Q.one {ps} {x = x} w is from to) =
    subst (λ (y : Placed). ListedAs ks y before p) (sym (get_or_at ps x [] d (length before) (omega (arith, lists_length w))))
    (record { is = is; to = to })
part_listed {ks} (q ∷ behind) {before} {p} d (Q.one {ps} {x = x} w is from to) =
    let n : length before < length ps = omega (arith, lists_length w, length-append behind (p ∷ before)) in
    subst (λ (y : Placed). ListedAs ks y before p) (sym (get_or-append ps (x ∷ []) d (length before) n)) (part_listed behind d w)

piece-argument : {ks : List ℕ} {at : ℕ} {x : Piece} {p : Part} → PieceIs ks at x p → argument_of x ≡ argument_in p
piece-argument (Q.is_text_part e f) = refl
piece-argument (Q.is_percent e f) = refl
piece-argument (Q.is_newline e) = refl
piece-argument (Q.is_element e) = e.argument

pub lists_largest : {ks : List ℕ} {ps : List Placed} {parts : List Part} → Lists ks ps parts → largest_of ps ≡ largest_in parts
unfolding largest_of largest_in
lists_largest Q.nothing = refl
lists_largest (Q.one {ps} {before} {x} {p} w is from to) =
    largest-one ps x ∙ ap (λ (n : ℕ). max n (argument_of x.piece)) (lists_largest w) ∙ ap (max (largest_in before)) (piece-argument is)
