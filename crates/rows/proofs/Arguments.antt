-- The text that an argument of a row names: it is a part of the row. Assumes nothing.
use Rattle.std.proofs.Common.{◌≡◌, ℕ, ◌+◌, ◌-◌, ◌*◌, ◌/◌, ◌%◌, ◌^◌, ◌<◌, ◌≤◌, Bool, true, false, List, length, take, drop, subst, arith, drop-drop, length-take}
use Rattle.std.proofs.Common.{ltb-true, leb-true, Option, Some}
use native.Mathlib.Nat.{add-sub_cancel_left}
use Rattle.writing.proofs.Choose.{both}
use Rattle.kinds.specs.declared.Kind.{Kind}
use Rattle.kinds.specs.declared.Kind.TheVariants as K
use Rattle.rows.specs.Entry.{is_entry}
use Rattle.rows.specs.Row.{count_of, text_area, named_text, entry_at}
use Rattle.rows.specs.Arguments.{Argument, Names}
use Rattle.rows.specs.declared.entries.Entry.{Entry}
use Rattle.rows.proofs.Rows.{row_shape, text-length, entry}

-- A value of kind 7 is not null, and names a part inside the text.
text-held : (text : List ℕ) (null : Bool) (v : ℕ) → is_entry text (record { kind = Some K.Text; null = null; value = v }) ≡ true
    → v % 2 ^ 32 + v / 2 ^ 32 ≤ length text
unfolding is_entry
text-held text true v f = absurd (omega (arith, ltb-true 1 0 f))
text-held text false v f = leb-true (v % 2 ^ 32 + v / 2 ^ 32) (length text) (both _ _ f).0

module _ (row : List ℕ) (a : ℕ) (h : Argument row a) where
  pub argument_names : (entry_at row a).kind ≡ Some K.Text → Names row (entry_at row a)
  argument_names t = record { kept = h.kept; is = entry row h.kept a h.first h.last; text = t }

module _ (row : List ℕ) (e : Entry) (h : Names row e) where
  pub text_room : (6 + 9 * count_of row + e.value % 2 ^ 32 + e.value / 2 ^ 32 ≤ length row) × (length row ≤ 33350)
  text_room =
      let w = row_shape row h.kept in
      let l = text-length row h.kept in
      let q = subst (λ (k : Option Kind). is_entry (text_area row) (record { kind = k; null = e.null; value = e.value }) ≡ true) h.text h.is in
      let i = text-held (text_area row) e.null e.value q in
      (omega (arith, w.0, l, i), omega (arith, w.0, w.1, w.2))

  -- as the code takes it: the part from a place to another
  pub text_part : (from : ℕ) → from ≡ 6 + 9 * count_of row + e.value % 2 ^ 32 → take (from + e.value / 2 ^ 32 - from) (drop from row) ≡ named_text row e
  unfolding named_text
  text_part from q = simp (q, add-sub_cancel_left, drop-drop)

  pub text_short : length (named_text row e) < 2 ^ 32
  unfolding named_text
  text_short = let r = text_room in simp length-take (omega arith)
