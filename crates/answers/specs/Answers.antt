-- What the program `sheet` reads and what it prints. 01, "Cases", from "Program `sheet`" on.
use Rattle.std.specs.Prelude.{ℕ, ◌+◌, Bool, ◌&&◌, List, ◌++◌, leb, length, take, drop, Ok, Err}
use Rattle.writing.specs.Choose.{choose}
use Rattle.writing.specs.Text.{ascii}
use Rattle.answers.specs.Lines.{line, numbers_line, end_lines}
use Rattle.words.specs.LittleEndian.{word_at}
use Rattle.refusals.specs.Numbers.{refusal_number}
use Rattle.outcomes.specs.Printed.{Outcome, texts, printed_text, ends_from, printed}

-- "reads up to 65,536 bytes"
abbrev pub most_input : ℕ
most_input = 65536

-- "it lends 16,384 output bytes and 512 ends"
abbrev pub room : ℕ
room = 16384

abbrev pub slots : ℕ
slots = 512

-- "format length in 2 bytes, little-endian"
abbrev pub length_of : List ℕ → ℕ
length_of s = word_at 2 s 0

-- "the format, the row": the row is all the rest.
abbrev pub format_of : List ℕ → List ℕ
format_of s = take (length_of s) (drop 2 s)

abbrev pub row_of : List ℕ → List ℕ
row_of s = drop (2 + length_of s) s

-- What "A missing length, or one beyond the input" excludes.
abbrev pub has_format : List ℕ → Bool
has_format s = leb 2 (length s) && leb (2 + length_of s) (length s)

-- "Fields: length, pieces; the text; one end a line. A refusal is `no`, number, place on one line."
abbrev pub outcome_text : Outcome → List ℕ → List ℕ → List ℕ
outcome_text (Ok m) text ends = numbers_line (ascii "ok ") m.length m.pieces ++ line text ++ end_lines ends
outcome_text (Err t) text ends = numbers_line (ascii "no ") (refusal_number t.refusal) t.place

-- The answer to a format and a row.
abbrev pub printed_answer : List ℕ → List ℕ → List ℕ
printed_answer format row = outcome_text (printed format row room slots) (printed_text format row) (ends_from 0 (texts format row))

-- "prints only `no input`" where the input has no format.
unfoldable pub answer_text : List ℕ → List ℕ
answer_text s = choose (has_format s) (λ _. printed_answer (format_of s) (row_of s)) (λ _. line (ascii "no input"))

-- All that is printed for the whole of standard input: only its first 65,536 bytes are looked at.
unfoldable pub sheet_text : List ℕ → List ℕ
sheet_text input = answer_text (take most_input input)

-- No answer is longer: a text of 16,384 bytes, 512 ends of at most 11 bytes with their line ends, a line of numbers.
abbrev pub most_answer : ℕ
most_answer = 22528
