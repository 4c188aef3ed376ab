-- What a row that keeps its layout has. Assumes nothing.
use Rattle.std.proofs.Common.{◌≡◌, ℕ, zero, suc, ◌+◌, ◌-◌, ◌*◌, ◌^◌, ◌<◌, ◌≤◌, Bool, true, false, eqb, leb, List, [], ◌∷◌, length, get_or, take, drop, sym}
use Rattle.std.proofs.Common.{refl, ap, ◌∙◌, subst, add-zero, pow-suc, arith, length-drop, length-take-le, get_or-drop, get_or-take, eqb-true, leb-true, Option}
use Rattle.std.proofs.Common.{Some, None}
use native.Mathlib.Nat.{one-le-pow}
use Rattle.refusals.specs.Limits.{most_values, most_text}
use Rattle.words.specs.LittleEndian.{little_endian, word_at}
use Rattle.rows.specs.Entry.{is_entry}
use Rattle.rows.specs.Row.{count_of, text_size, kinds_of, text_area, kind_byte_of, value_of, entry_at, entries_from, is_row}
use Rattle.rows.specs.Arguments.{row_of}
use Rattle.writing.specs.Choose.{choose}
use Rattle.writing.proofs.Choose.{both}

-- one of k entries from the argument a on
one_of : (k : ℕ) (row : List ℕ) (a : ℕ) → entries_from k row a ≡ true → (i : ℕ) → i < k → is_entry (text_area row) (entry_at row (a + i)) ≡ true
unfolding entries_from
one_of zero row a e i h = absurd (omega arith)
one_of (suc k) row a e zero h = simp add-zero (both (is_entry (text_area row) (entry_at row a)) (entries_from k row (a + 1)) e).0
one_of (suc k) row a e (suc i) h =
    let n : a + 1 + i ≡ a + suc i = omega arith in
    ap (λ (m : ℕ). is_entry (text_area row) (entry_at row m)) (sym n)
    ∙ one_of k row (a + 1) (both (is_entry (text_area row) (entry_at row a)) (entries_from k row (a + 1)) e).1 i (omega arith)

-- What the tests of a layout say.
record Layout (row : List ℕ) : Type 0 where
  few : count_of row ≤ most_values
  short : text_size row ≤ most_text
  whole : 6 + 9 * count_of row + text_size row ≡ length row
  entries : entries_from (count_of row) row 1 ≡ true

layout : (row : List ℕ) → is_row row ≡ true → Layout row
unfolding is_row
layout row e =
    let p = both _ (entries_from (count_of row) row 1) e in
    let q = both _ (eqb (length row) (6 + 9 * count_of row + text_size row)) p.0 in
    let r = both _ (leb (text_size row) most_text) q.0 in
    let s = both (leb 6 (length row)) (leb (count_of row) most_values) r.0 in
    record {
      few = leb-true (count_of row) most_values s.1;
      short = leb-true (text_size row) most_text r.1;
      whole = sym (eqb-true (length row) (6 + 9 * count_of row + text_size row) q.1);
      entries = p.1;
    }

-- every element a byte
abbrev pub AllBytes : List ℕ → Type 0
AllBytes s = (i : ℕ) → get_or s i 0 < 256

below : (k : ℕ) (l : List ℕ) → AllBytes l → little_endian (take k l) < 256 ^ k
unfolding little_endian
below zero l h = omega arith
below (suc k) [] h = one-le-pow (suc k) 256 (omega arith)
below (suc k) (b ∷ l) h = omega (arith, h 0, below k l (λ i. h (suc i)), pow-suc 256 k)

pub number-below : (k : ℕ) (s : List ℕ) (at : ℕ) → AllBytes s → word_at k s at < 256 ^ k
unfolding word_at
number-below k s at h = below k (drop at s) (λ i. simp get_or-drop (h (at + i)))

pub value-below : (row : List ℕ) (a : ℕ) → AllBytes row → value_of row a < 2 ^ 64
value-below row a h = number-below 8 row (6 + count_of row + 8 * (a - 1)) h

-- The kind byte of an argument, among the kind bytes and in the row.
pub kind_byte : (row : List ℕ) (a : ℕ) → 1 ≤ a → a ≤ count_of row → get_or (kinds_of row) (a - 1) 0 ≡ kind_byte_of row a
kind_byte row a h k =
    let e : 6 + (a - 1) ≡ 5 + a = omega arith in
    get_or-take (count_of row) (drop 6 row) (a - 1) 0 (omega arith) ∙ get_or-drop 6 row (a - 1) 0 ∙ ap (λ (i : ℕ). get_or row i 0) e

module _ (row : List ℕ) (kept : is_row row ≡ true) where
  pub row_shape : (6 + 9 * count_of row + text_size row ≡ length row) × (count_of row ≤ most_values) × (text_size row ≤ most_text)
  row_shape =
      let l = layout row kept in
      (l.whole, l.few, l.short)

  pub kinds-length : length (kinds_of row) ≡ count_of row
  kinds-length =
      let w = row_shape.0 in
      length-take-le (count_of row) (drop 6 row) (simp length-drop (omega arith))

  pub text-length : length (text_area row) ≡ text_size row
  text-length =
      let w = row_shape.0 in
      simp length-drop (omega arith)

  pub entry : (a : ℕ) → 1 ≤ a → a ≤ count_of row → is_entry (text_area row) (entry_at row a) ≡ true
  entry a h k =
      let e : 1 + (a - 1) ≡ a = omega arith in
      ap (λ (i : ℕ). is_entry (text_area row) (entry_at row i)) (sym e) ∙ one_of (count_of row) row 1 (layout row kept).entries (a - 1) (omega arith)

-- What the answer of reading a row says.
abbrev Answered : List ℕ → Option ℕ → Bool → Type 0
Answered row (Some n) b = (b ≡ true) × (n ≡ count_of row)
Answered row None b = b ≡ false

answered : (row : List ℕ) (b : Bool) → Answered row (choose b (λ _. Some (count_of row)) (λ _. None)) b
answered row true = (refl, refl)
answered row false = refl

pub row_read : (row : List ℕ) (n : ℕ) → row_of row ≡ Some n → (is_row row ≡ true) × (n ≡ count_of row)
unfolding row_of
row_read row n e = subst (λ (x : Option ℕ). Answered row x (is_row row)) e (answered row (is_row row))

pub row_broken : (row : List ℕ) → row_of row ≡ None → is_row row ≡ false
unfolding row_of
row_broken row e = subst (λ (x : Option ℕ). Answered row x (is_row row)) e (answered row (is_row row))
