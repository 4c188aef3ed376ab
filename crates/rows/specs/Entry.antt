-- One entry of a row, as 01 has it: a kind, whether it is null, and a value, over the text of the row.
use Rattle.std.specs.Prelude.{ℕ, ◌+◌, ◌-◌, ◌/◌, ◌%◌, ◌^◌, Bool, true, false, ◌&&◌, ◌||◌, ltb, List, length, take, drop, ℤ, ◌==◌, nat_le, nat_lt, Some, None}
use Rattle.std.specs.Prelude.{Option}
use Rattle.writing.specs.Choose.{choose}
use Rattle.numerals.specs.Integers.{integer_of}
use Rattle.utf8.specs.Utf8.{well_formed}
use Rattle.kinds.specs.Kinds.{is_null, kind_in, by_kind}
use Rattle.kinds.specs.declared.IntegerKind.{IntegerKind}
use Rattle.kinds.specs.declared.Kind.{Kind}
use Rattle.kinds.specs.declared.Kind.TheVariants as K
use Rattle.rows.specs.declared.entries.Entry.{Entry}

-- The entry of a kind byte and a value.
abbrev pub entry_of : ℕ → ℕ → Entry
entry_of byte v = record { kind = kind_in byte; null = is_null byte; value = v }

-- "7 text (low 4 bytes offset, high 4 bytes length ..)": the part of the text area.
abbrev pub part_of : List ℕ → ℕ → List ℕ
part_of text v = take (v / 2 ^ 32) (drop (v % 2 ^ 32) text)

-- The integers of a kind: "value sign-extended, within the kind"; without a sign, within its width.
abbrev pub within : IntegerKind → ℕ → Bool
within k v =
    choose k.signed (λ _. nat_lt v (2 ^ (k.width - 1)) || nat_le (2 ^ 64 - 2 ^ (k.width - 1)) v) (λ _. ltb v (2 ^ k.width))

-- The values of each kind: its integers; every pattern of a float; "Boolean (0 or 1)"; a text whose offset and length have a "sum at most t,
-- well-formed UTF-8"; every timestamp.
abbrev pub holds : Option Kind → List ℕ → ℕ → Bool
holds (Some (K.Integer k)) text v = within k v
holds (Some K.Float64) text v = true
holds (Some K.Boolean) text v = nat_le v 1
holds (Some K.Text) text v = nat_le (v % 2 ^ 32 + v / 2 ^ 32) (length text) && well_formed (part_of text v)
holds (Some K.Timestamp) text v = true
holds None text v = false

-- "128 added to kinds 1 to 4 or 6 means null, with value 0." A timestamp is "never null" (02, E1).
abbrev pub can_be_null : Option Kind → Bool
can_be_null (Some k) = by_kind (λ _. true) false true false false k
can_be_null None = false

-- Whether an entry may stand in a row with this text.
unfoldable pub is_entry : List ℕ → Entry → Bool
is_entry text e = choose e.null (λ _. can_be_null e.kind && e.value == 0) (λ _. holds e.kind text e.value)

-- The kind of an entry as an integer's, and its integer; of any other kind they are not asked.
abbrev pub integer_kind_of : Option Kind → IntegerKind
integer_kind_of (Some k) = let other : IntegerKind = record { width = 64; signed = true } in by_kind (λ i. i) other other other other k
integer_kind_of None = record { width = 64; signed = true }

abbrev pub integer_in : Entry → ℤ
integer_in x = integer_of (integer_kind_of x.kind).signed x.value
