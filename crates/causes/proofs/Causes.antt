-- "Each number is returned with its cause and without it never": one theorem for checking, measuring and printing. Assumes nothing.
use Rattle.std.specs.Prelude.{Option, None, Some, Ok}
use mathlib.Core.Path.{◌≡◌, refl, sym, ap, subst, ◌∙◌}
use mathlib.Core.Bool.{Bool, true, false, ◌&&◌}
use mathlib.Core.List.{List}
use Prim.Native.Nat.{ℕ, ◌≤◌, ◌<◌}
use native.Mathlib.Decide.{dec_lt}
use native.Mathlib.Omega.{arith}
use lib.Dec.{leb}
use lib.ListN.{length}
use borrow.Author.Tests.{le-leb}
use Rattle.refusals.specs.Limits.{most_format, most_kinds, largest_end}
use Rattle.writing.proofs.Choose.{both}
use Rattle.utf8.specs.Utf8.{well_formed}
use Rattle.kinds.specs.Kinds.{all_known}
use Rattle.parsing.specs.Check.{largest_of, checked_end, checked}
use Rattle.parsing.specs.Listed.{placed, Ended}
use Rattle.grammar.specs.Parts.{Part, largest_in}
use Rattle.grammar.specs.Elements.{Clash}
use Rattle.grammar.specs.Elements as E
use Rattle.grammar.specs.Faults.{Fault}
use Rattle.grammar.specs.Faults as F
use Rattle.grammar.specs.Readings.{Whole, StopsReading, many, fault}
use Rattle.grammar.proofs.Listed.{lists_length, lists_largest}
use Rattle.grammar.proofs.Letters.{never}
use Rattle.grammar.proofs.Numbers.{table_numbers}
use Rattle.grammar.proofs.Readings.{Ends, made, stops, ends, read_whole}
use Rattle.rows.specs.Row.{kinds_of, is_row}
use Rattle.outcomes.specs.Printed.{printed_text, measured, if_room, printed, joined, Outcome}
use Rattle.outcomes.specs.PartTexts.{PartTexts}
use Rattle.outcomes.proofs.PartTexts.{part_texts}
use Rattle.causes.specs.Calls.{Call, checking, measuring, printing, format_in, kinds_in, OfRow, measured_row, printed_row}
use Rattle.causes.specs.Calls.{of_checked, of_outcome, refusal, returned}
use Rattle.causes.specs.Causes.{BadInput, Begins, AllPrinted, FirstUnprinted, here, earlier, NoRoom, Cause, NumberedCause, numbered}
use Rattle.causes.specs.Causes as K
use Rattle.causes.proofs.Inputs.{kinds_good, bad_kinds, kinds_bad, checked-kinds, row_good, measured_bad, printed_bad}
use Rattle.causes.proofs.Refused.{read-checked, accepted_measured, refuses, text_is}
use Rattle.causes.proofs.Stops.{Told, fine, found, told}
use Rattle.refusals.specs.declared.Refusal.{Refusal}
use Rattle.refusals.specs.declared.Stop.{Stop}
use Rattle.refusals.specs.Numbers.{refusal_number, stop}

-- Every call has a cause, or is accepted.
data Judged (call : Call) : Type 0 where
  caused : {n : Refusal} {p : ℕ} → Cause call n p → Judged call
  accepted : refusal call ≡ None → Judged call

-- A format that is short and well-formed, or the cause that it is not.
by_format : (call : Call) → (length (format_in call) ≤ most_format → well_formed (format_in call) ≡ true → Judged call) → Judged call
by_format call f = elim (dec_lt most_format (length (format_in call))) [
  | yes h ↦ caused (K.earlier_stop (K.long h))
  | no h ↦ go (well_formed (format_in call)) refl (omega arith)
]
  where
    go : (t : Bool) → well_formed (format_in call) ≡ t → length (format_in call) ≤ most_format → Judged call
    go true q h = f h q
    go false q h = caused (K.earlier_stop (K.malformed h q))

-- what checking accepts
checked-whole : {s ks : List ℕ} {parts : List Part} → length s ≤ most_format → well_formed s ≡ true
    → (leb (length ks) most_kinds && all_known ks) ≡ true → Whole s ks parts → checked s ks ≡ Ok (record { pieces = length parts; largest = largest_in parts })
checked-whole {s} {ks} {parts} h f k w =
    let known = checked-kinds ks (both (leb (length ks) most_kinds) (all_known ks) k).1 in
    let r = read_whole s ks known w in
    read-checked s ks h f k
    ∙ ap (λ (e : Ended). checked_end e (placed s ks)) r.finished
    ∙ ap (λ (n : ℕ). Ok (record { pieces = n; largest = largest_of (placed s ks) })) (lists_length r.lists)
    ∙ ap (λ (n : ℕ). Ok (record { pieces = length parts; largest = n })) (lists_largest r.lists)

judged_checking : (s ks : List ℕ) → Judged (checking s ks)
judged_checking s ks = by_format (checking s ks) (λ h f. go (leb (length ks) most_kinds && all_known ks) refl h f)
  where
    go : (t : Bool) → (leb (length ks) most_kinds && all_known ks) ≡ t → length s ≤ most_format → well_formed s ≡ true → Judged (checking s ks)
    go false q h f = caused (K.earlier_stop (K.input h f (bad_kinds s ks q)))
    go true q h f = by_end (ends s ks)
      where
        begun : Begins (checking s ks)
        begun = record { short = h; formed = f; input = λ n b. never (sym (kinds_bad s ks n b).0 ∙ q) }

        by_end : Ends s ks → Judged (checking s ks)
        by_end (made w) = accepted (ap of_checked (checked-whole h f q w))
        by_end (stops x) = caused (K.earlier_stop (K.reading begun x))

-- Of measuring and printing: what a row that is printed comes to is left to `room`.
module _ (call : Call) (s row : List ℕ) (of : OfRow call row) (same_format : format_in call ≡ s) (same-kinds : kinds_in call ≡ kinds_of row)
    (bad : (n : Refusal) → BadInput call n → is_row row ≡ false)
    (room : length s ≤ most_format → well_formed s ≡ true → is_row row ≡ true → (parts : List Part) → Whole s (kinds_of row) parts → AllPrinted row parts
    → Begins call → Judged call) where
  by_row : Judged call
  by_row = by_format call (λ h f. go (is_row row) refl h f)
    where
      go : (t : Bool) → is_row row ≡ t → length (format_in call) ≤ most_format → well_formed (format_in call) ≡ true → Judged call
      go false q h f = caused (K.earlier_stop (K.input h f (K.broken_row of q)))
      go true q h f = by_end (ends s (kinds_of row))
        where
          begun : Begins call
          begun = record { short = h; formed = f; input = λ n b. never (sym (bad n b) ∙ q) }

          as_format : {parts : List Part} → Whole s (kinds_of row) parts → Whole (format_in call) (kinds_in call) parts
          as_format w = rw (same_format, same-kinds) w

          by_told : (parts : List Part) → Whole s (kinds_of row) parts → Told (AllPrinted row parts) (FirstUnprinted row parts) → Judged call
          by_told parts w (fine x) =
              room (subst (λ (l : List ℕ). length l ≤ most_format) same_format h) (ap well_formed (sym same_format) ∙ f) q parts w x begun
          by_told parts w (found x) = caused (K.earlier_stop (K.unprinted begun of (as_format w) x))

          by_end : Ends s (kinds_of row) → Judged call
          by_end (made {parts} w) = by_told parts w (told row parts)
          by_end (stops {n = n} {p = p} x) =
              let y : StopsReading (format_in call) (kinds_in call) n p = rw (same_format, same-kinds) x in
              caused (K.earlier_stop (K.reading begun y))

judged_measuring : (s row : List ℕ) → Judged (measuring s row)
judged_measuring s row =
    by_row (measuring s row) s row measured_row refl refl (λ n b. (measured_bad n b).0)
    (λ h f k parts w x _. accepted (ap of_outcome (accepted_measured s row h f k w x)))

judged_printing : (s row : List ℕ) (room slots : ℕ) → Judged (printing s row room slots)
unfolding printed printed_text
judged_printing s row room slots =
    by_row (printing s row room slots) s row printed_row refl refl (λ n b. (printed_bad n b).0) go
  where
    go : length s ≤ most_format → well_formed s ≡ true → is_row row ≡ true → (parts : List Part) → Whole s (kinds_of row) parts → AllPrinted row parts
        → Begins (printing s row room slots) → Judged (printing s row room slots)
    go h f k parts w x b =
        elim (dec_lt room n) [
          | yes l ↦ caused (K.no_room b w x (part_texts s row k w) (K.longer_than_output l))
          | no l ↦ elim (dec_lt largest_end n) [
            | yes m ↦ caused (K.no_room b w x (part_texts s row k w) (K.longer_than_ends_hold m))
            | no m ↦ elim (dec_lt slots (length parts)) [
              | yes o ↦ caused (K.no_room b w x (part_texts s row k w) (K.more_pieces o))
              | no o ↦
                  let fits : if_room room slots (Ok (record { length = n; pieces = length parts })) ≡ Ok (record { length = n; pieces = length parts }) =
                  simp (le-leb n room (omega arith), le-leb n largest_end (omega arith), le-leb (length parts) slots (omega arith)) in
                  accepted (ap (λ (o : Outcome). of_outcome (if_room room slots o)) (accepted_measured s row h f k w x) ∙ ap of_outcome fits)
            ]
          ]
        ]
      where
        n : ℕ
        n = length (printed_text s row)

judged : (call : Call) → Judged call
judged (checking s ks) = judged_checking s ks
judged (measuring s row) = judged_measuring s row
judged (printing s row room slots) = judged_printing s row room slots

-- A call that is refused has the cause of its number and place.
pub cause_of : (call : Call) (n : Refusal) (p : ℕ) → refusal call ≡ Some (stop n p) → Cause call n p
cause_of call n p e = go (judged call)
  where
    go : Judged call → Cause call n p
    go (accepted q) = absurd (let f = sym q ∙ e in let z : ◌≡◌ {A = ℕ} 0 1 = cc in omega arith)
    go (caused {n = m} {p = q} x) =
        let f = sym (refuses call x) ∙ e in
        let t : stop m q ≡ stop n p = cc in
        subst (λ (t : Stop). Cause call t.refusal t.place) t x

-- "Each number is returned with its cause and without it never."
pub exactly : (call : Call) (n : Refusal) (p : ℕ)
    → (refusal call ≡ Some (stop n p) → Cause call n p) × (Cause call n p → refusal call ≡ Some (stop n p))
exactly call n p = (cause_of call n p, refuses call)

-- The theorem by the numbers themselves, as C reads them.
pub number_exactly : (call : Call) (n p : ℕ)
    → (returned (refusal call) ≡ Some (n, p) → NumberedCause call n p) × (NumberedCause call n p → returned (refusal call) ≡ Some (n, p))
number_exactly call n p = (λ e. from (refusal call) refl e, to)
  where
    from : (o : Option Stop) → refusal call ≡ o → returned o ≡ Some (n, p) → NumberedCause call n p
    from None e q = absurd (let z : ◌≡◌ {A = ℕ} 0 1 = cc in omega arith)
    from (Some t) e q =
        let pair : ◌≡◌ {A = ℕ × ℕ} (refusal_number t.refusal, t.place) (n, p) = cc in
        subst (NumberedCause call n) (ap (λ (r : ℕ × ℕ). r.1) pair)
        (numbered (table_numbers t.refusal ∙ ap (λ (r : ℕ × ℕ). r.0) pair) (cause_of call t.refusal t.place e))

    to : NumberedCause call n p → returned (refusal call) ≡ Some (n, p)
    to (numbered {why = r} e x) =
        ap returned (refuses call x) ∙ ap (λ (k : ℕ). Some (k, p)) (sym (table_numbers r) ∙ e)

-- A call is accepted exactly where no cause holds.
pub accepted_exactly : (call : Call)
    → (refusal call ≡ None → (n : Refusal) (p : ℕ) → Cause call n p → ⊥) × (((n : Refusal) (p : ℕ) → Cause call n p → ⊥) → refusal call ≡ None)
accepted_exactly call = (without, only)
  where
    without : refusal call ≡ None → (n : Refusal) (p : ℕ) → Cause call n p → ⊥
    without e n p x = let f = sym e ∙ refuses call x in let z : ◌≡◌ {A = ℕ} 0 1 = cc in omega arith

    only : ((n : Refusal) (p : ℕ) → Cause call n p → ⊥) → refusal call ≡ None
    only h = go (judged call)
      where
        go : Judged call → refusal call ≡ None
        go (accepted q) = q
        go (caused {n = n} {p = p} x) = absurd (h n p x)

-- What an accepted call answers. A format is checked with as many pieces as it has parts, and their largest argument;
pub checked_parts : {s ks : List ℕ} {parts : List Part} → Begins (checking s ks) → Whole s ks parts
    → checked s ks ≡ Ok (record { pieces = length parts; largest = largest_in parts })
checked_parts {s} {ks} b w = checked-whole b.short b.formed (kinds_good s ks b.input) w

-- a row is measured, and printed where it has room, with the length of its text and as many pieces.
pub measured_parts : {s row : List ℕ} {parts : List Part} {ts : List (List ℕ)} → Begins (measuring s row) → Whole s (kinds_of row) parts → AllPrinted row parts
    → PartTexts row parts ts → measured s row ≡ Ok (record { length = length (joined ts); pieces = length parts })
measured_parts {s} {row} {parts} b w x of =
    let kept = row_good measured_row b.input in
    accepted_measured s row b.short b.formed kept w x
    ∙ ap (λ (t : List ℕ). Ok (record { length = length t; pieces = length parts })) (sym (text_is s row b.short b.formed kept w of))

pub printed_parts : {s row : List ℕ} (room slots : ℕ) {parts : List Part} → Begins (printing s row room slots) → Whole s (kinds_of row) parts
    → AllPrinted row parts → {ts : List (List ℕ)} → PartTexts row parts ts → (NoRoom (length (joined ts)) room slots (length parts) → ⊥)
    → printed s row room slots ≡ Ok (record { length = length (joined ts); pieces = length parts })
unfolding printed
printed_parts {s} {row} room slots {parts} b w x {ts} of h =
    let kept = row_good printed_row b.input in
    ap (if_room room slots) (accepted_measured s row b.short b.formed kept w x
    ∙ ap (λ (t : List ℕ). Ok (record { length = length t; pieces = length parts })) (sym (text_is s row b.short b.formed kept w of)))
    ∙ simp (within room K.longer_than_output, within largest_end K.longer_than_ends_hold, few)
  where
    n : ℕ
    n = length (joined ts)

    within : (most : ℕ) → (most < n → NoRoom n room slots (length parts)) → leb n most ≡ true
    within most f = elim (dec_lt most n) [ yes l ↦ absurd (h (f l)) | no l ↦ le-leb n most (omega arith) ]

    few : leb (length parts) slots ≡ true
    few = elim (dec_lt slots (length parts)) [ yes l ↦ absurd (h (K.more_pieces l)) | no l ↦ le-leb (length parts) slots (omega arith) ]

-- The numbers of refusals are 1 to 18.
abbrev pub InTable : Refusal → Type 0
InTable r = (1 ≤ refusal_number r) × (refusal_number r ≤ 18)

fault-number : {ks : List ℕ} {before : List Part} {r : List ℕ} {n : Refusal} → Fault ks before r n → InTable n
fault-number (F.no_element rest e z) = (omega arith, omega arith)
fault-number (F.no_index rest e) = (omega arith, omega arith)
fault-number (F.large_index ds rest e i n) = (omega arith, omega arith)
fault-number (F.above b n) = (omega arith, omega arith)
fault-number (F.clash g n run split free x) = of_clash x
  where
    of_clash : {f : List ℕ} {b : ℕ} {n : Refusal} → Clash f b n → InTable n
    of_clash (E.zero_after_minus e h) = (omega arith, omega arith)
    of_clash (E.plus_after_space e h) = (omega arith, omega arith)
    of_clash (E.space_after_plus e h) = (omega arith, omega arith)
fault-number (F.large_width f run n) = (omega arith, omega arith)
fault-number (F.large_precision x run n) = (omega arith, omega arith)
fault-number (F.no_letter x n) = (omega arith, omega arith)
fault-number (F.no_time_letter x i n) = (omega arith, omega arith)
fault-number (F.no_fit x n) = (omega arith, omega arith)

stop_number : {s ks : List ℕ} {n : Refusal} {p : ℕ} → StopsReading s ks n p → InTable n
stop_number (many w full) = (omega arith, omega arith)
stop_number (fault w few x) = fault-number x

unprinted-number : {row : List ℕ} {parts : List Part} {n : Refusal} {p : ℕ} → FirstUnprinted row parts n p → InTable n
unprinted-number (here (K.not_printed h) a) = (omega arith, omega arith)
unprinted-number (here (K.no_scalar p c m z) a) = (omega arith, omega arith)
unprinted-number (here (K.no_whole_second p t z) a) = (omega arith, omega arith)
unprinted-number (earlier x) = unprinted-number x

input-number : {call : Call} {n : Refusal} → BadInput call n → InTable n
input-number (K.many_kinds h) = (omega arith, omega arith)
input-number (K.no_kind k h n) = (omega arith, omega arith)
input-number (K.broken_row of h) = (omega arith, omega arith)

cause_number : {call : Call} {n : Refusal} {p : ℕ} → Cause call n p → InTable n
cause_number (K.earlier_stop (K.long h)) = (omega arith, omega arith)
cause_number (K.earlier_stop (K.malformed h f)) = (omega arith, omega arith)
cause_number (K.earlier_stop (K.input h f b)) = input-number b
cause_number (K.earlier_stop (K.reading b x)) = stop_number x
cause_number (K.earlier_stop (K.unprinted b of w x)) = unprinted-number x
cause_number (K.no_room b w x of y) = (omega arith, omega arith)

pub number_in_table : (call : Call) (n : Refusal) (p : ℕ) → refusal call ≡ Some (stop n p) → InTable n
number_in_table call n p e = cause_number (cause_of call n p e)
