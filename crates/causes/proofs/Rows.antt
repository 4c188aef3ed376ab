-- Of a row that keeps its layout: what checking says of a format and the row's kinds, without their null marks, is what measuring does with the row, as far as
-- reading goes: the same refusals, and the same number of pieces. Assumes nothing.
use Rattle.std.specs.Prelude.{Err, Ok, Result}
use mathlib.Core.Path.{◌≡◌, refl, sym, ap, subst, ◌∙◌}
use mathlib.Core.Bool.{Bool, true, false, ◌&&◌}
use mathlib.Core.List.{List, [], ◌∷◌}
use Prim.Native.Nat.{ℕ, suc, ◌+◌, ◌-◌, ◌≤◌, ◌<◌}
use native.Mathlib.Decide.{dec_lt}
use native.Mathlib.Omega.{arith}
use lib.Dec.{leb}
use lib.ListN.{length, get_or}
use borrow.Author.Tests.{le-leb}
use Rattle.refusals.specs.Limits.{most_format, most_kinds}
use Rattle.utf8.specs.Utf8.{well_formed}
use Rattle.kinds.specs.Kinds.{unmarked, kind_of, is_known, all_known}
use Rattle.parsing.specs.Check.{checked_end, checked}
use Rattle.parsing.specs.Listed.{placed, ended, Ended}
use Rattle.parsing.specs.declared.Checked.{Checked}
use Rattle.grammar.proofs.Marks.{without_marks, as_many, unmarked-placed, unmarked-ended}
use Rattle.rows.specs.Row.{kinds_of, is_row}
use Rattle.rows.proofs.Rows.{row_shape, kinds-length}
use Rattle.outcomes.specs.Printed.{printed_text, first_stop, unless_stopped, measured_end, measured}
use Rattle.outcomes.proofs.Letters.{row-kinds}
use Rattle.causes.proofs.Inputs.{kind_known}
use Rattle.causes.proofs.Refused.{long-checked, malformed-checked, read-checked, long-measured, malformed-measured, read-measured}
use Rattle.refusals.specs.Numbers.{stop}
use Rattle.refusals.specs.declared.Stop.{Stop}
use Rattle.refusals.specs.declared.Refusal.{Refusal}

all_known_lem : (ks : List ℕ) → ((i : ℕ) → i < length ks → is_known (kind_of (unmarked (get_or ks i 0))) ≡ true) → all_known (without_marks ks) ≡ true
unfolding all_known
all_known_lem [] h = refl
all_known_lem (k ∷ ks) h = simp (h 0 (omega arith), all_known_lem ks (λ i j. h (suc i) (omega arith)))

module _ (s row : List ℕ) (kept : is_row row ≡ true) where
  abbrev ks : List ℕ
  ks = kinds_of row

  kinds_pass : (leb (length (without_marks ks)) most_kinds && all_known (without_marks ks)) ≡ true
  kinds_pass =
      let few : length (without_marks ks) ≤ most_kinds = omega (arith, as_many ks, kinds-length row kept, (row_shape row kept).1) in
      simp (le-leb (length (without_marks ks)) most_kinds few, all_known_lem ks known)
    where
      known : (i : ℕ) → i < length ks → is_known (kind_of (unmarked (get_or ks i 0))) ≡ true
      known i h =
          let e : i + 1 - 1 ≡ i = omega arith in
          ap (λ (j : ℕ). is_known (kind_of (unmarked (get_or ks j 0)))) (sym e) ∙ kind_known _ (row-kinds row kept (i + 1) (omega arith) (omega arith))

  -- What a check of the kinds says of the row.
  abbrev Says : Result Checked Stop → Type 0
  Says (Ok found) =
      (ended s ks ≡ Ok tt) × (length (placed s ks) ≡ found.pieces)
      × (measured s row ≡ unless_stopped (first_stop s row (placed s ks)) (Ok (record { length = length (printed_text s row); pieces = found.pieces })))
  Says (Err t) = measured s row ≡ Err t

  says : Says (checked s (without_marks ks))
  unfolding measured_end
  says = elim (dec_lt most_format (length s)) [
    | yes h ↦ subst Says (sym (long-checked s (without_marks ks) h)) (long-measured s row h)
    | no h ↦ by_form (well_formed s) refl (omega arith)
  ]
    where
      by_end : length s ≤ most_format → well_formed s ≡ true → (x : Ended) → ended s ks ≡ x → Says (checked_end x (placed s ks))
      by_end h f (Ok end) q = (q, refl, read-measured s row h f kept ∙ ap (measured_end s row) q)
      by_end h f (Err t) q = read-measured s row h f kept ∙ ap (measured_end s row) q

      by_form : (t : Bool) → well_formed s ≡ t → length s ≤ most_format → Says (checked s (without_marks ks))
      by_form false f h = subst Says (sym (malformed-checked s (without_marks ks) h f)) (malformed-measured s row h f)
      by_form true f h =
          let same =
          read-checked s (without_marks ks) h f kinds_pass ∙ ap (λ (e : Ended). checked_end e (placed s (without_marks ks))) (unmarked-ended s ks)
          ∙ ap (checked_end (ended s ks)) (unmarked-placed s ks) in
          subst Says (sym same) (by_end h f (ended s ks) refl)

  pub refused_so : (n : Refusal) (p : ℕ) → checked s (without_marks ks) ≡ Err (stop n p) → measured s row ≡ Err (stop n p)
  refused_so n p e = subst Says e says

  -- accepted with so many pieces, unless one of them is not printed
  pub accepted_so : (k m : ℕ) → checked s (without_marks ks) ≡ Ok (record { pieces = k; largest = m })
      → (ended s ks ≡ Ok tt) × (length (placed s ks) ≡ k)
      × (measured s row ≡ unless_stopped (first_stop s row (placed s ks)) (Ok (record { length = length (printed_text s row); pieces = k })))
  accepted_so k m e = subst Says e says
