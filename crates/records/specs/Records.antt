-- The records of a list of vectors: where the parts of one lie, and what it says that a call answers. crates/vectors/README.md has the layout.
use Rattle.std.specs.Prelude.{ℕ, ◌+◌, ◌*◌, ◌-◌, ◌||◌, Option, Some, None, List, eqb, leb, ltb, length, get_or}
use Rattle.writing.specs.Choose.{choose}
use Rattle.words.specs.LittleEndian.{word_at}
use Rattle.records.specs.Comparing.{between}
use Rattle.records.specs.declared.statements.Stated.{Stated}
use Rattle.records.specs.declared.statements.Stated.TheVariants.{Accepts, Prints, Refuses}
use Rattle.records.specs.declared.Record.{Record}

-- The end of a part whose length stands before it in two bytes.
unfoldable pub part_end : List ℕ → ℕ → Option ℕ
part_end s at = choose (leb (at + 2 + word_at 2 s at) (length s)) (λ _. Some (at + 2 + word_at 2 s at)) (λ _. None)

-- Checking that accepts: pieces and largest argument index, two bytes each.
unfoldable pub accepts_at : List ℕ → ℕ → Option (Stated × ℕ)
accepts_at s at = choose (leb (at + 4) (length s)) (λ _. Some (Accepts (word_at 2 s at) (word_at 2 s (at + 2)), at + 4)) (λ _. None)

-- A refusal: number in one byte, place in two.
unfoldable pub refuses_at : List ℕ → ℕ → Option (Stated × ℕ)
refuses_at s at = choose (leb (at + 3) (length s)) (λ _. Some (Refuses (get_or s at 0) (word_at 2 s (at + 1)), at + 3)) (λ _. None)

-- Printing that accepts: the text as a part, a count in two bytes, and as many ends of four bytes.
unfoldable pub ends_at : List ℕ → ℕ → Option ℕ → Option (Stated × ℕ)
ends_at s text (Some end) =
    choose (leb (end + 2 + 4 * word_at 2 s end) (length s))
    (λ _. Some (Prints text end (word_at 2 s end), end + 2 + 4 * word_at 2 s end))
    (λ _. None)
ends_at s text None = None

unfoldable pub prints_at : List ℕ → ℕ → Option (Stated × ℕ)
prints_at s at = ends_at s (at + 2) (part_end s at)

-- What is stated behind a tag: 0 accepted by checking, 1 refused by checking, 2 printed, 3 refused by printing.
unfoldable pub stated_at : List ℕ → ℕ → ℕ → Option (Stated × ℕ)
stated_at s tag at =
    choose (eqb tag 0) (λ _. accepts_at s at)
    (λ _. choose (eqb tag 2) (λ _. prints_at s at)
    (λ _. choose (eqb tag 1 || eqb tag 3) (λ _. refuses_at s at)
    (λ _. None)))

abbrev pub with_stated : ℕ → ℕ → ℕ → ℕ → Option (Stated × ℕ) → Option Record
with_stated kind format values tag (Some (stated, next)) =
    Some (record { prints = leb 2 kind; format = format; values = values; tag = tag; stated = stated; next = next })
with_stated kind format values tag None = None

abbrev pub with_values : List ℕ → ℕ → ℕ → Option ℕ → Option Record
with_values s format values (Some tag) =
    choose (ltb tag (length s)) (λ _. with_stated (get_or s tag 0) format values tag (stated_at s (get_or s tag 0) (tag + 1))) (λ _. None)
with_values s format values None = None

abbrev pub with_format : List ℕ → ℕ → Option ℕ → Option Record
with_format s format (Some end) = with_values s format (end + 2) (part_end s end)
with_format s format None = None

-- The record at a place: the format as a part, the kinds or the row as a part, a tag, and what is stated.
unfoldable pub record_at : List ℕ → ℕ → Option Record
record_at s at = with_format s (at + 2) (part_end s at)

-- Its format, and its kinds or its row.
abbrev pub format_of : List ℕ → Record → List ℕ
format_of s r = between r.format (r.values - 2) s

abbrev pub values_of : List ℕ → Record → List ℕ
values_of s r = between r.values r.tag s
