-- The row of values. 01: "Sizes first: n, 2 bytes, 0 to 64; t, 4 bytes, 0 to 32,768. Then two parallel arrays: n kind bytes and n values of 8
-- bytes. Then t bytes of text. All little-endian, length exactly 6 + 9n + t."
use Rattle.std.specs.Prelude.{ℕ, zero, suc, ◌+◌, ◌-◌, ◌*◌, Bool, true, ◌&&◌, List, length, take, drop, ◌==◌, nat_le, slice_index}
use Rattle.refusals.specs.Limits.{most_values, most_text}
use Rattle.words.specs.LittleEndian.{word_at}
use Rattle.rows.specs.Entry.{entry_of, part_of, is_entry}
use Rattle.rows.specs.declared.entries.Entry.{Entry}

-- n and t
abbrev pub count_of : List ℕ → ℕ
count_of row = word_at 2 row 0

abbrev pub text_size : List ℕ → ℕ
text_size row = word_at 4 row 2

-- The kind bytes, the text, and, of the argument with the index a (from 1), its kind byte and its value.
abbrev pub kinds_of : List ℕ → List ℕ
kinds_of row = take (count_of row) (drop 6 row)

abbrev pub text_area : List ℕ → List ℕ
text_area row = drop (6 + 9 * count_of row) row

abbrev pub kind_byte_of : List ℕ → ℕ → ℕ
kind_byte_of row a = slice_index row (5 + a)

abbrev pub value_of : List ℕ → ℕ → ℕ
value_of row a = word_at 8 row (6 + count_of row + 8 * (a - 1))

-- The entry of the argument a.
unfoldable pub entry_at : List ℕ → ℕ → Entry
entry_at row a = entry_of (kind_byte_of row a) (value_of row a)

-- The text that an entry of kind 7 names; of another kind it is not looked at.
unfoldable pub named_text : List ℕ → Entry → List ℕ
named_text row e = part_of (text_area row) e.value

-- That k entries from the argument a on may stand in the row.
unfoldable pub entries_from : ℕ → List ℕ → ℕ → Bool
entries_from zero row a = true
entries_from (suc k) row a = is_entry (text_area row) (entry_at row a) && entries_from k row (a + 1)

-- That a row keeps its layout; a row that does not is 14.
unfoldable pub is_row : List ℕ → Bool
is_row row =
    nat_le 6 (length row)
    && nat_le (count_of row) most_values
    && nat_le (text_size row) most_text
    && length row == 6 + 9 * count_of row + text_size row
    && entries_from (count_of row) row 1
