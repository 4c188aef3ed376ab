-- What the functions of this crate require and answer. No contract of an entry speaks of these.
use Rattle.std.specs.Prelude.{◌≡◌, ℕ, ◌≤◌, true, List, Option, Some, None}
use Rattle.writing.specs.Choose.{choose}
use Rattle.kinds.specs.declared.Kind.TheVariants as K
use Rattle.rows.specs.Entry.{is_entry}
use Rattle.rows.specs.Row.{count_of, text_area, is_row}
use Rattle.rows.specs.declared.entries.Entry.{Entry}

-- An argument of a row that keeps its layout.
pub record Argument (row : List ℕ) (a : ℕ) : Type 0 where
  pub kept : is_row row ≡ true
  pub first : 1 ≤ a
  pub last : a ≤ count_of row

-- The answer of reading a row: its count of arguments.
unfoldable pub row_of : List ℕ → Option ℕ
row_of row = choose (is_row row) (λ _. Some (count_of row)) (λ _. None)

-- An entry of kind 7 that stands in a row that keeps its layout.
pub record Names (row : List ℕ) (e : Entry) : Type 0 where
  pub kept : is_row row ≡ true
  pub is : is_entry (text_area row) e ≡ true
  pub text : e.kind ≡ Some K.Text
