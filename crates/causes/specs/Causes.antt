-- 01's table, "What stops a call", over the bytes of what is lent: the cause of each number, in the table's order. For laws alone.
use Rattle.std.specs.Prelude.{ℕ, suc, ◌%◌, ◌≤◌, ◌<◌, ◌≡◌, Bool, true, false, not, ◌&&◌, ◌||◌, List, [], ◌∷◌, leb, eqb, ℤ, pos, negsuc, length}
use Rattle.refusals.specs.Limits.{most_format, most_kinds, largest_end}
use Rattle.writing.specs.Text.{ascii, has}
use Rattle.numerals.specs.Integers.{int_of}
use Rattle.utf8.specs.Utf8.{well_formed}
use Rattle.grammar.specs.Runs.{begins}
use Rattle.grammar.specs.Parts.{Written, Part, text, percent, newline, element, bytes_before}
use Rattle.grammar.specs.Elements.{kinds, in_table}
use Rattle.grammar.specs.Readings.{Whole, StopsReading}
use Rattle.grammar.specs.Numbers.{table_number}
use Rattle.kinds.specs.Kinds.{unmarked}
use Rattle.rows.specs.Entry.{integer_in}
use Rattle.rows.specs.Row.{kind_byte_of, entry_at, is_row}
use Rattle.outcomes.specs.Printed.{joined}
use Rattle.outcomes.specs.PartTexts.{PartTexts}
use Rattle.causes.specs.Calls.{Call, checking, printing, format_in, kinds_in, OfRow}
use Rattle.refusals.specs.declared.Refusal.{Refusal}
use Rattle.refusals.specs.declared.Refusal.TheVariants as R

-- "over 64 kinds, or a kind not 1 to 7 (checking)", with 02, E1, not 1 to 8; "row breaks its layout"
pub data BadInput : Call → Refusal → Type 0 where
  many_kinds : {s ks : List ℕ} → most_kinds < length ks → BadInput (checking s ks) R.BadKinds
  no_kind : {s ks : List ℕ} (k : ℕ) → has ks k ≡ true → has kinds k ≡ false → BadInput (checking s ks) R.BadKinds
  broken_row : {call : Call} {row : List ℕ} → OfRow call row → is_row row ≡ false → BadInput call R.BrokenRow

-- "Order: 1, 2, 3 or 14; then pieces": what comes before the pieces is in order.
pub record Begins (call : Call) : Type 0 where
  pub short : length (format_in call) ≤ most_format
  pub formed : well_formed (format_in call) ≡ true
  pub input : (why : Refusal) → BadInput call why → ⊥

-- Which letters print which kinds: integers by %d, %x, %o, %c and %s; "the only letters printed for kind 5" are those of %a; "%b of Boolean and %s of
-- text are the only letters printed for kinds 6 and 7 (capitals too)"; 02, E1, of kind 8: "only t and T print".
abbrev pub printed_for : List (List ℕ × List ℕ)
printed_for =
    (ascii "dxXocCsS", 1 ∷ 2 ∷ 3 ∷ 4 ∷ []) ∷ (ascii "aA", 5 ∷ []) ∷ (ascii "bB", 6 ∷ []) ∷ (ascii "sS", 7 ∷ []) ∷ (ascii "tT", 8 ∷ []) ∷ []

abbrev pub prints_bytes : List ℕ → ℕ → Bool
prints_bytes [] k = false
prints_bytes (l ∷ more) k = in_table printed_for l k

abbrev pub is_printed : List ℕ → Written → Bool
is_printed row w = prints_bytes w.letter (unmarked (kind_byte_of row w.argument))

-- A Unicode scalar value: 0 to D7FF or E000 to 10FFFF, hexadecimal.
abbrev pub is_scalar_value : ℤ → Bool
is_scalar_value (pos n) = leb n 0xd7ff || (leb 0xe000 n && leb n 0x10ffff)
is_scalar_value (negsuc n) = false

-- A timestamp before 1970 that is not a whole second.
abbrev pub is_between_seconds : ℤ → Bool
is_between_seconds (pos n) = false
is_between_seconds (negsuc n) = not (eqb (suc n % 1000000000) 0)

-- "letter not printed for this kind", "%c of no Unicode scalar value", and 02, E1, "at the place of a t or T element, for a negative timestamp there that is
-- not a whole second", of an element of a row.
pub data Unprinted (row : List ℕ) (w : Written) : Refusal → Type 0 where
  not_printed : is_printed row w ≡ false → Unprinted row w R.NotPrinted
  no_scalar : is_printed row w ≡ true → begins (has (ascii "cC")) w.letter ≡ true
      → (entry_at row w.argument).null ≡ false → is_scalar_value (integer_in (entry_at row w.argument)) ≡ false → Unprinted row w R.NoScalar
  no_whole_second : is_printed row w ≡ true → begins (has (ascii "tT")) w.letter ≡ true
      → is_between_seconds (int_of 64 (entry_at row w.argument).value) ≡ true → Unprinted row w R.NoWholeSecond

-- "then 15 and 16 left to right over a format that passed", and 18 "comes with 15 and 16, left to right": that none of some parts is such, and the
-- first that is. The last part stands first.
abbrev pub PartPrinted : List ℕ → Part → Type 0
PartPrinted row (text t) = Unit {0}
PartPrinted row percent = Unit {0}
PartPrinted row newline = Unit {0}
PartPrinted row (element w) = (why : Refusal) → Unprinted row w why → ⊥

abbrev pub AllPrinted : List ℕ → List Part → Type 0
AllPrinted row [] = Unit {0}
AllPrinted row (p ∷ before) = PartPrinted row p × AllPrinted row before

pub data FirstUnprinted (row : List ℕ) : List Part → Refusal → ℕ → Type 0 where
  here : {w : Written} {before : List Part} {why : Refusal} → Unprinted row w why → AllPrinted row before
      → FirstUnprinted row (element w ∷ before) why (length (bytes_before before))
  earlier : {p : Part} {before : List Part} {why : Refusal} {place : ℕ} → FirstUnprinted row before why place → FirstUnprinted row (p ∷ before) why place

-- What stops a call before its room is asked for, with its number and place.
pub data StopsBefore : Call → Refusal → ℕ → Type 0 where
  -- "format over 4,096 bytes"
  long : {call : Call} → most_format < length (format_in call) → StopsBefore call R.LongFormat 0
  -- "format not UTF-8"
  malformed : {call : Call} → length (format_in call) ≤ most_format → well_formed (format_in call) ≡ false → StopsBefore call R.MalformedFormat 0
  -- 3 and 14
  input : {call : Call} {why : Refusal} → length (format_in call) ≤ most_format → well_formed (format_in call) ≡ true → BadInput call why
      → StopsBefore call why 0
  -- 4 to 13
  reading : {call : Call} {why : Refusal} {place : ℕ} → Begins call → StopsReading (format_in call) (kinds_in call) why place → StopsBefore call why place
  -- 15, 16 and 18
  unprinted : {call : Call} {row : List ℕ} {parts : List Part} {why : Refusal} {place : ℕ} → Begins call → OfRow call row
      → Whole (format_in call) (kinds_in call) parts
      → FirstUnprinted row parts why place → StopsBefore call why place

-- "text longer than output or than 4,294,967,295, or more pieces than ends", of n bytes of text and so many pieces.
pub data NoRoom (n room slots pieces : ℕ) : Type 0 where
  longer_than_output : room < n → NoRoom n room slots pieces
  longer_than_ends_hold : largest_end < n → NoRoom n room slots pieces
  more_pieces : slots < pieces → NoRoom n room slots pieces

-- The cause of a refusal, with its number and place.
pub data Cause : Call → Refusal → ℕ → Type 0 where
  earlier_stop : {call : Call} {why : Refusal} {place : ℕ} → StopsBefore call why place → Cause call why place
  -- 17, of the texts of the format's parts
  no_room : {s row : List ℕ} {room slots : ℕ} {parts : List Part} {ts : List (List ℕ)} → Begins (printing s row room slots)
      → Whole s (kinds_in (printing s row room slots)) parts → AllPrinted row parts → PartTexts row parts ts
      → NoRoom (length (joined ts)) room slots (length parts) → Cause (printing s row room slots) R.NoRoom 0

-- The cause of a number and a place.
pub data NumberedCause (call : Call) (n p : ℕ) : Type 0 where
  numbered : {why : Refusal} → table_number why ≡ n → Cause call why p → NumberedCause call n p
