-- A call is refused where a cause holds, with the cause's number and place. Assumes nothing.
use Rattle.std.specs.Prelude.{Option, None, Some, Err, Ok}
use mathlib.Core.Path.{◌≡◌, refl, sym, ap, ◌∙◌, subst}
use mathlib.Core.Bool.{Bool, true, false, ◌&&◌}
use mathlib.Core.List.{List, [], ◌∷◌}
use Prim.Native.Nat.{ℕ, ◌≤◌, ◌<◌}
use native.Mathlib.Omega.{arith}
use lib.Dec.{leb}
use lib.ListN.{length}
use borrow.Author.Tests.{lt-ltb, le-ltb, lt-leb}
use Rattle.refusals.specs.Limits.{most_format, most_kinds, largest_end}
use Rattle.writing.specs.Text.{has}
use Rattle.writing.proofs.Choose.{both}
use Rattle.utf8.specs.Utf8.{well_formed}
use Rattle.kinds.specs.Kinds.{unmarked, all_known}
use Rattle.parsing.specs.Check.{checked_end, checked}
use Rattle.parsing.specs.Listed.{placed, ended, Ended}
use Rattle.grammar.specs.Parts.{Written, Part, text, percent, newline, element}
use Rattle.grammar.specs.Elements.{kinds, Reads}
use Rattle.grammar.specs.Readings.{Whole, StopsReading}
use Rattle.grammar.proofs.Arguments.{Each, arguments_in}
use Rattle.grammar.proofs.Listed.{lists_length}
use Rattle.grammar.proofs.Readings.{Read, read_whole, stopped_by}
use Rattle.rows.specs.Row.{count_of, kinds_of, is_row}
use Rattle.rows.proofs.Rows.{kinds-length, kind_byte}
use Rattle.outcomes.specs.Printed.{printed_text, first_stop, unless_stopped, measured_end, measured, if_room, printed, joined}
use Rattle.outcomes.specs.PartTexts.{PartTexts}
use Rattle.outcomes.proofs.PartTexts.{part_texts}
use Rattle.outcomes.proofs.Unique.{same-texts}
use Rattle.outcomes.proofs.Letters.{row-kinds}
use Rattle.causes.specs.Calls.{Call, checking, measuring, printing, measured_row, printed_row, of_checked, of_outcome, refusal}
use Rattle.causes.specs.Causes.{AllPrinted, FirstUnprinted, NoRoom, longer_than_output, longer_than_ends_hold, more_pieces, Cause}
use Rattle.causes.specs.Causes as K
use Rattle.causes.proofs.Inputs.{kinds_good, kinds_bad, checked-kinds, row_good, measured_bad, printed_bad}
use Rattle.causes.proofs.Stops.{HasKind, none_stops, first_stops}
use Rattle.refusals.specs.Numbers.{stop}
use Rattle.refusals.specs.declared.Refusal.{Refusal}
use Rattle.refusals.specs.declared.Stop.{Stop}
use Rattle.refusals.specs.declared.Refusal.TheVariants as R

-- checking, test by test
module _ (s ks : List ℕ) where
  pub long-checked : most_format < length s → checked s ks ≡ Err (stop R.LongFormat 0)
  unfolding checked
  long-checked h = simp (lt-ltb most_format (length s) h)

  module _ (short : length s ≤ most_format) where
    pub malformed-checked : well_formed s ≡ false → checked s ks ≡ Err (stop R.MalformedFormat 0)
    unfolding checked
    malformed-checked f = simp (le-ltb most_format (length s) short, f)

    module _ (formed : well_formed s ≡ true) where
      kinds-checked : (leb (length ks) most_kinds && all_known ks) ≡ false → checked s ks ≡ Err (stop R.BadKinds 0)
      unfolding checked
      kinds-checked k = simp (le-ltb most_format (length s) short, formed, k)

      pub read-checked : (leb (length ks) most_kinds && all_known ks) ≡ true → checked s ks ≡ checked_end (ended s ks) (placed s ks)
      unfolding checked
      read-checked k = simp (le-ltb most_format (length s) short, formed, k)

-- measuring, test by test; printing answers a refusal of measuring
module _ (s row : List ℕ) where
  pub long-measured : most_format < length s → measured s row ≡ Err (stop R.LongFormat 0)
  unfolding measured
  long-measured h = simp (lt-ltb most_format (length s) h)

  module _ (short : length s ≤ most_format) where
    pub malformed-measured : well_formed s ≡ false → measured s row ≡ Err (stop R.MalformedFormat 0)
    unfolding measured
    malformed-measured f = simp (le-ltb most_format (length s) short, f)

    module _ (formed : well_formed s ≡ true) where
      broken_measured : is_row row ≡ false → measured s row ≡ Err (stop R.BrokenRow 0)
      unfolding measured
      broken_measured b = simp (le-ltb most_format (length s) short, formed, b)

      pub read-measured : is_row row ≡ true → measured s row ≡ measured_end s row (ended s (kinds_of row))
      unfolding measured
      read-measured k = simp (le-ltb most_format (length s) short, formed, k)

  pub refused-printed : (room slots : ℕ) {n : Refusal} {p : ℕ} → measured s row ≡ Err (stop n p) → printed s row room slots ≡ Err (stop n p)
  unfolding printed
  refused-printed room slots e = ap (if_room room slots) e

-- a format and row whose pieces are read
each_of : {P Q : Written → Type 0} → ((w : Written) → P w → Q w) → (parts : List Part) → Each P parts → Each Q parts
each_of f [] h = tt
each_of f (text t ∷ before) h = (tt, each_of f before h.1)
each_of f (percent ∷ before) h = (tt, each_of f before h.1)
each_of f (newline ∷ before) h = (tt, each_of f before h.1)
each_of f (element w ∷ before) h = (f w h.0, each_of f before h.1)

module _ (s row : List ℕ) (short : length s ≤ most_format) (formed : well_formed s ≡ true) (kept : is_row row ≡ true) where
  have_kinds : {parts : List Part} {r : List ℕ} → Reads s (kinds_of row) parts r → Each (HasKind row) parts
  have_kinds {parts} w = each_of known parts (arguments_in s (kinds_of row) w)
    where
      known : (w : Written) → (1 ≤ w.argument) × (w.argument ≤ length (kinds_of row)) → HasKind row w
      known w h =
          let few : w.argument ≤ count_of row = omega (arith, h.1, kinds-length row kept) in
          let byte = kind_byte row w.argument h.0 few in
          record { known = ap (λ (k : ℕ). has kinds (unmarked k)) (sym byte) ∙ row-kinds row kept w.argument h.0 h.1; in_row = byte }

  stopped_measured : {n : Refusal} {p : ℕ} → StopsReading s (kinds_of row) n p → measured s row ≡ Err (stop n p)
  unfolding measured_end
  stopped_measured x = read-measured s row short formed kept ∙ ap (measured_end s row) (stopped_by s (kinds_of row) (row-kinds row kept) x)

  module _ {parts : List Part} (w : Whole s (kinds_of row) parts) where
    pub whole_read : Read s (kinds_of row) (row-kinds row kept) parts
    whole_read = read_whole s (kinds_of row) (row-kinds row kept) w

    whole_measured : (x : Option Stop) → first_stop s row (placed s (kinds_of row)) ≡ x
        → measured s row ≡ unless_stopped x (Ok (record { length = length (printed_text s row); pieces = length parts }))
    unfolding measured_end
    whole_measured x e =
        read-measured s row short formed kept
        ∙ ap (measured_end s row) whole_read.finished
        ∙ ap (λ (t : Option Stop). unless_stopped t (Ok (record { length = length (printed_text s row); pieces = length (placed s (kinds_of row)) }))) e
        ∙ ap (λ (n : ℕ). unless_stopped x (Ok (record { length = length (printed_text s row); pieces = n }))) (lists_length whole_read.lists)

    unprinted_measured : {n : Refusal} {p : ℕ} → FirstUnprinted row parts n p → measured s row ≡ Err (stop n p)
    unprinted_measured x = whole_measured _ (first_stops s row whole_read.lists (have_kinds w.reads) x)

    pub accepted_measured : AllPrinted row parts → measured s row ≡ Ok (record { length = length (printed_text s row); pieces = length parts })
    accepted_measured x = whole_measured None (none_stops s row whole_read.lists (have_kinds w.reads) x)

    -- the text is those of the parts, joined
    pub text_is : {ts : List (List ℕ)} → PartTexts row parts ts → joined ts ≡ printed_text s row
    unfolding printed_text
    text_is x = ap joined (same-texts row x (part_texts s row kept w))

    no_room_printed : {room slots : ℕ} {ts : List (List ℕ)} → AllPrinted row parts → PartTexts row parts ts
        → NoRoom (length (joined ts)) room slots (length parts) → printed s row room slots ≡ Err (stop R.NoRoom 0)
    unfolding printed
    no_room_printed {room} {slots} x of y =
        ap (if_room room slots) (accepted_measured x) ∙ without (subst (λ (t : List ℕ). NoRoom (length t) room slots (length parts)) (text_is of) y)
      where
        n : ℕ
        n = length (printed_text s row)

        false_last : (a : Bool) → (a && false) ≡ false
        false_last true = refl
        false_last false = refl

        without : NoRoom n room slots (length parts) → if_room room slots (Ok (record { length = n; pieces = length parts })) ≡ Err (stop R.NoRoom 0)
        without (longer_than_output h) = simp (lt-leb n room h)
        without (longer_than_ends_hold h) = simp (lt-leb n largest_end h, false_last (leb n room))
        without (more_pieces h) = simp (lt-leb (length parts) slots h, false_last (leb n room && leb n largest_end))

abbrev refused_with : Refusal → ℕ → Option Stop
refused_with n p = Some (stop n p)

-- Of every call.
pub refuses : (call : Call) {n : Refusal} {p : ℕ} → Cause call n p → refusal call ≡ Some (stop n p)
refuses (checking s ks) (K.earlier_stop (K.long h)) = ap of_checked (long-checked s ks h)
refuses (checking s ks) (K.earlier_stop (K.malformed h f)) = ap of_checked (malformed-checked s ks h f)
refuses (checking s ks) (K.earlier_stop (K.input {why = why} h f b)) =
    let x = kinds_bad s ks why b in
    ap of_checked (kinds-checked s ks h f x.0) ∙ ap (λ (n : Refusal). refused_with n 0) (sym x.1)
refuses (checking s ks) (K.earlier_stop (K.reading b x)) =
    let k = kinds_good s ks b.input in
    let known = checked-kinds ks (both (leb (length ks) most_kinds) (all_known ks) k).1 in
    ap of_checked
    (read-checked s ks b.short b.formed k ∙ ap (λ (e : Ended). checked_end e (placed s ks)) (stopped_by s ks known x))
refuses (checking s ks) {n = n} {p = p} (K.earlier_stop (K.unprinted {row = row} {parts = parts} b x w u)) = elim x [ ]
refuses (measuring s row) (K.earlier_stop (K.long h)) = ap of_outcome (long-measured s row h)
refuses (measuring s row) (K.earlier_stop (K.malformed h f)) = ap of_outcome (malformed-measured s row h f)
refuses (measuring s row) (K.earlier_stop (K.input {why = why} h f b)) =
    let x = measured_bad why b in
    ap of_outcome (broken_measured s row h f x.0) ∙ ap (λ (n : Refusal). refused_with n 0) (sym x.1)
refuses (measuring s row) (K.earlier_stop (K.reading b x)) = ap of_outcome (stopped_measured s row b.short b.formed (row_good measured_row b.input) x)
refuses (measuring s row) (K.earlier_stop (K.unprinted b measured_row w x)) =
    ap of_outcome (unprinted_measured s row b.short b.formed (row_good measured_row b.input) w x)
refuses (printing s row room slots) (K.earlier_stop (K.long h)) = ap of_outcome (refused-printed s row room slots (long-measured s row h))
refuses (printing s row room slots) (K.earlier_stop (K.malformed h f)) = ap of_outcome (refused-printed s row room slots (malformed-measured s row h f))
refuses (printing s row room slots) (K.earlier_stop (K.input {why = why} h f b)) =
    let x = printed_bad why b in
    ap of_outcome (refused-printed s row room slots (broken_measured s row h f x.0)) ∙ ap (λ (n : Refusal). refused_with n 0) (sym x.1)
refuses (printing s row room slots) (K.earlier_stop (K.reading b x)) =
    ap of_outcome (refused-printed s row room slots (stopped_measured s row b.short b.formed (row_good printed_row b.input) x))
refuses (printing s row room slots) (K.earlier_stop (K.unprinted b printed_row w x)) =
    ap of_outcome (refused-printed s row room slots (unprinted_measured s row b.short b.formed (row_good printed_row b.input) w x))
refuses (printing s row room slots) (K.no_room b w x of y) =
    ap of_outcome (no_room_printed s row b.short b.formed (row_good printed_row b.input) w x of y)
