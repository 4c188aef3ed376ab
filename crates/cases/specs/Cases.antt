-- 01, "Cases": "These rows are a table of the definitions, under a lone theorem"; and rows of ours beside them.
use Rattle.std.specs.Prelude.{ℕ, ◌+◌, ◌-◌, ◌*◌, ◌^◌, Bool, true, false, ◌&&◌, List, [], ◌∷◌, ◌++◌, eqb, length, Ok, Err}
use Prim.Native.Char.{code}
use Prim.Native.String.{String, [] as empty, ◌∷◌ as ◌then◌}
use Rattle.words.specs.LittleEndian.{bytes_of}
use Rattle.reading.specs.Examples.{same}
use Rattle.utf8.specs.Scalars.{utf8_of}
use Rattle.outcomes.specs.Printed.{Outcome, printed_text, measured}

-- the bytes of a text
abbrev pub utf8 : String → List ℕ
utf8 empty = []
utf8 (c then s) = utf8_of (code c) ++ utf8 s

-- A row of one argument: its kind byte, its value and the text area.
abbrev pub row_with : ℕ → ℕ → List ℕ → List ℕ
row_with kind value text = bytes_of 2 1 ++ (bytes_of 4 (length text) ++ (kind ∷ (bytes_of 8 value ++ text)))

-- A row of the table. The value is the 8 bytes that stand for it: of a text, its length times 2 ^ 32.
pub record Case : Type 0 where
  pub format : String
  pub kind : ℕ
  pub value : ℕ
  pub area : String
  pub text : String

-- -n in 64 bits
abbrev minus : ℕ → ℕ
minus n = 2 ^ 64 - n

-- A table is read as: format, kind byte, value, text area, the text printed. That of `%-(8d` is 02's, E2: "`%-(8d` of -5 prints `(5)` and five spaces."
abbrev pub cases : List Case
cases =
    record { format = "%d"; kind = 3; value = 5; area = ""; text = "5" }
    ∷ record { format = "%05d"; kind = 3; value = minus 5; area = ""; text = "-0005" }
    ∷ record { format = "%,d"; kind = 3; value = 1234567; area = ""; text = "1,234,567" }
    ∷ record { format = "%-(8d"; kind = 3; value = minus 5; area = ""; text = "(5)     " }
    ∷ record { format = "%(1d"; kind = 3; value = minus 5; area = ""; text = "(5)" }
    ∷ record { format = "%d"; kind = 4; value = 2 ^ 63; area = ""; text = "-9223372036854775808" }
    ∷ record { format = "%#06x"; kind = 1; value = minus 1; area = ""; text = "0x00ff" }
    ∷ record { format = "%a"; kind = 5; value = 0x3ff0_0000_0000_0000; area = ""; text = "0x1.0p0" }
    ∷ record { format = "%010a"; kind = 5; value = 0x3ff0_0000_0000_0000; area = ""; text = "0x0001.0p0" }
    ∷ record { format = "%a"; kind = 5; value = 0x3ff0_8000_0000_0000; area = ""; text = "0x1.08p0" }
    ∷ record { format = "%.1a"; kind = 5; value = 0x3fff_8000_0000_0000; area = ""; text = "0x1.0p1" }
    ∷ record { format = "%.1a"; kind = 5; value = 1; area = ""; text = "0x1.0p-1074" }
    ∷ record { format = "%a"; kind = 5; value = 1; area = ""; text = "0x0.0000000000001p-1022" }
    ∷ record { format = "%.1s"; kind = 7; value = 2 ^ 33; area = "é"; text = "" }
    ∷ record { format = "%3c"; kind = 3; value = 233; area = ""; text = " é" }
    ∷ record { format = "%.2d"; kind = 131; value = 0; area = ""; text = "nu" }
    ∷ []

-- Rows of ours, of what reading back does not see: marks, prefixes, capitals, padding, words, characters and texts, and where in the row they stand.
abbrev pub ours : List Case
ours =
    record { format = "%+d"; kind = 3; value = 5; area = ""; text = "+5" }
    ∷ record { format = "% d"; kind = 3; value = 5; area = ""; text = " 5" }
    ∷ record { format = "%X"; kind = 1; value = minus 1; area = ""; text = "FF" }
    ∷ record { format = "%#x"; kind = 1; value = minus 1; area = ""; text = "0xff" }
    ∷ record { format = "%#X"; kind = 1; value = minus 1; area = ""; text = "0XFF" }
    ∷ record { format = "%#o"; kind = 3; value = 8; area = ""; text = "010" }
    ∷ record { format = "%5d"; kind = 3; value = 5; area = ""; text = "    5" }
    ∷ record { format = "%0-(8d"; kind = 3; value = minus 5; area = ""; text = "(5)     " }
    ∷ record { format = "%-(2d"; kind = 3; value = minus 5; area = ""; text = "(5)" }
    ∷ record { format = "%A"; kind = 5; value = 0x3ff0_0000_0000_0000; area = ""; text = "0X1.0P0" }
    ∷ record { format = "% a"; kind = 5; value = 0x3ff0_0000_0000_0000; area = ""; text = " 0x1.0p0" }
    ∷ record { format = "%A"; kind = 5; value = 0x7ff8_0000_0000_0000; area = ""; text = "NAN" }
    ∷ record { format = "%010A"; kind = 5; value = 0x7ff0_0000_0000_0000; area = ""; text = "  INFINITY" }
    ∷ record { format = "%+a"; kind = 5; value = 0x7ff0_0000_0000_0000; area = ""; text = "+Infinity" }
    ∷ record { format = "%a"; kind = 5; value = 0x7ff8_0000_0000_0000; area = ""; text = "NaN" }
    ∷ record { format = "%s"; kind = 7; value = 5 * 2 ^ 32; area = "north"; text = "north" }
    ∷ record { format = "%07s"; kind = 7; value = 5 * 2 ^ 32 + 2; area = "a north gate"; text = "  north" }
    ∷ record { format = "%-7S"; kind = 7; value = 5 * 2 ^ 32; area = "north"; text = "NORTH  " }
    ∷ record { format = "%s"; kind = 3; value = minus 42; area = ""; text = "-42" }
    ∷ record { format = "%S"; kind = 131; value = 0; area = ""; text = "NULL" }
    ∷ record { format = "%b"; kind = 6; value = 1; area = ""; text = "true" }
    ∷ record { format = "%B"; kind = 134; value = 0; area = ""; text = "FALSE" }
    ∷ record { format = "%c"; kind = 3; value = 97; area = ""; text = "a" }
    ∷ record { format = "%C"; kind = 3; value = 97; area = ""; text = "A" }
    ∷ record { format = "gate 7"; kind = 3; value = 5; area = ""; text = "gate 7" }
    ∷ record { format = "%%"; kind = 3; value = 5; area = ""; text = "%" }
    ∷ []

-- Dates (02, E1): each letter of a pattern is seen in one of these, alone or in a composed one; both sides of noon, and
-- midnight on the 12-hour clock; a leap day in a full hundred; the day behind 28 February of a full hundred that is no leap year; the largest timestamp; signs.
abbrev seconds : ℕ → ℕ
seconds n = n * 1000000000

abbrev pub dates : List Case
dates =
    record { format = "%tc"; kind = 8; value = seconds 1794726309 + 25000000; area = ""; text = "Sun Nov 15 07:05:09 UTC 2026" }
    ∷ record { format = "%tD"; kind = 8; value = seconds 1794726309 + 25000000; area = ""; text = "11/15/26" }
    ∷ record { format = "%tr"; kind = 8; value = seconds 1794726309 + 25000000; area = ""; text = "07:05:09 AM" }
    ∷ record { format = "%tR"; kind = 8; value = seconds 1794726309 + 25000000; area = ""; text = "07:05" }
    ∷ record { format = "%tk"; kind = 8; value = seconds 1794726309 + 25000000; area = ""; text = "7" }
    ∷ record { format = "%tL"; kind = 8; value = seconds 1794726309 + 25000000; area = ""; text = "025" }
    ∷ record { format = "%th"; kind = 8; value = seconds 1794726309 + 25000000; area = ""; text = "Nov" }
    ∷ record { format = "%tC"; kind = 8; value = seconds 1794726309 + 25000000; area = ""; text = "20" }
    ∷ record { format = "%TB"; kind = 8; value = seconds 1794726309 + 25000000; area = ""; text = "NOVEMBER" }
    ∷ record { format = "%tA"; kind = 8; value = seconds 1794726309 + 25000000; area = ""; text = "Sunday" }
    ∷ record { format = "%tj"; kind = 8; value = seconds 1794726309 + 25000000; area = ""; text = "319" }
    ∷ record { format = "%te"; kind = 8; value = 0; area = ""; text = "1" }
    ∷ record { format = "%tl"; kind = 8; value = 0; area = ""; text = "12" }
    ∷ record { format = "%tr"; kind = 8; value = seconds 43200; area = ""; text = "12:00:00 PM" }
    ∷ record { format = "%40.1tp"; kind = 8; value = seconds 43199; area = ""; text = "am" }
    ∷ record { format = "%tz"; kind = 8; value = 0; area = ""; text = "+0000" }
    ∷ record { format = "%tF"; kind = 8; value = seconds 951782400; area = ""; text = "2000-02-29" }
    ∷ record { format = "%tc"; kind = 8; value = minus (seconds 2203891200); area = ""; text = "Thu Mar 01 00:00:00 UTC 1900" }
    ∷ record { format = "%tN"; kind = 8; value = 2 ^ 63 - 1; area = ""; text = "854775807" }
    ∷ record { format = "%ts"; kind = 8; value = minus (seconds 1); area = ""; text = "-1" }
    ∷ record { format = "%tQ"; kind = 8; value = minus (seconds 1); area = ""; text = "-1000" }
    ∷ []

-- That a format of one piece prints, and what.
abbrev pub prints : Outcome → List ℕ → List ℕ → Bool
prints (Ok m) printed text = eqb m.pieces 1 && eqb m.length (length text) && same printed text
prints (Err stopped) printed text = false

abbrev pub case_row : Case → List ℕ
case_row c = row_with c.kind c.value (utf8 c.area)

abbrev pub holds : Case → Bool
holds c = prints (measured (utf8 c.format) (case_row c)) (printed_text (utf8 c.format) (case_row c)) (utf8 c.text)

-- A row of two Int32: `%2$d` prints the second.
abbrev pub row_of_two : ℕ → ℕ → List ℕ
row_of_two a b = bytes_of 2 2 ++ (bytes_of 4 0 ++ (3 ∷ 3 ∷ (bytes_of 8 a ++ bytes_of 8 b)))

abbrev pub second_holds : Bool
second_holds = prints (measured (utf8 "%2$d") (row_of_two 5 7)) (printed_text (utf8 "%2$d") (row_of_two 5 7)) (utf8 "7")

abbrev pub all_hold : List Case → Bool
all_hold [] = true
all_hold (c ∷ cs) = holds c && all_hold cs
