-- The C entries of checking, measuring and printing. 01: "The panel's host program in C calls checking, measuring and printing on numbers and byte
-- slices; ends pass there as 4 little-endian bytes each, and up to 3 bytes left over are never written."
use Rattle.std.specs.Prelude.{ℕ, ◌/◌, ◌≤◌, ◌≡◌, List, [], ◌∷◌, length, take, Result, Ok, Err}
use Rattle.writing.specs.Laid.{laid}
use Rattle.words.specs.LittleEndian.{little_endian, all_bytes}
use Rattle.parsing.specs.declared.Checked.{Checked}
use Rattle.refusals.specs.Numbers.{refusal_number}
use Rattle.refusals.specs.declared.Stop.{Stop}
use Rattle.outcomes.specs.Printed.{Outcome, texts, printed_text, ends_from, printed, written}
use Rattle.outcomes.specs.Demand.{Demanded}
use Rattle.panel.specs.declared.CheckAnswer.{CheckAnswer}
use Rattle.panel.specs.declared.PrintAnswer.{PrintAnswer}

-- 01, "What stops a call", "Returned": the number and the place; 0 where nothing stops it, with what is returned then.
abbrev pub check_answer : Result Checked Stop → CheckAnswer
check_answer (Ok found) = record { number = 0; place = 0; pieces = found.pieces; largest = found.largest }
check_answer (Err t) = record { number = refusal_number t.refusal; place = t.place; pieces = 0; largest = 0 }

abbrev pub print_answer : Outcome → PrintAnswer
print_answer (Ok found) = record { number = 0; place = 0; length = found.length; pieces = found.pieces }
print_answer (Err t) = record { number = refusal_number t.refusal; place = t.place; length = 0; pieces = 0 }

-- The ends that bytes hold, "4 little-endian bytes each"; "up to 3 bytes left over" hold none.
unfoldable pub ends_read : List ℕ → List ℕ
ends_read [] = []
ends_read (a ∷ []) = []
ends_read (a ∷ b ∷ []) = []
ends_read (a ∷ b ∷ c ∷ []) = []
ends_read (a ∷ b ∷ c ∷ d ∷ rest) = little_endian (a ∷ b ∷ c ∷ d ∷ []) ∷ ends_read rest

-- That a text and slots, where long enough for n bytes and k ends, begin with what is printed.
abbrev pub Holds : List ℕ → List ℕ → ℕ → ℕ → List ℕ → List ℕ → Type 0
Holds s row n k text slots = n ≤ length text → k ≤ length slots → (take n text ≡ printed_text s row) × (take k slots ≡ ends_from 0 (texts s row))

-- What a call of printing answers, and leaves in d and in the bytes e of the ends.
pub record Prints (s row d e : List ℕ) (o : Outcome) (out ends : List ℕ) : Type 0 where
  pub answer : o ≡ printed s row (length d) (length e / 4)
  pub bytes : out ≡ written o d (printed_text s row)
  pub slots : ends ≡ written o e (all_bytes (ends_from 0 (texts s row)))

-- What an accepted call leaves there.
abbrev pub BothLaid : List ℕ → List ℕ → List ℕ → List ℕ → List ℕ → List ℕ → Type 0
BothLaid s row d e out ends = (out ≡ laid d (printed_text s row)) × (ends ≡ laid e (all_bytes (ends_from 0 (texts s row))))

-- What panel_print answers and leaves: the answer of printing, text and ends where nothing stops the call, and demand 3 of them.
pub record PanelPrints (s row d e : List ℕ) (r : PrintAnswer) (out ends : List ℕ) : Type 0 where
  pub answer : r ≡ print_answer (printed s row (length d) (length e / 4))
  pub bytes : out ≡ written (printed s row (length d) (length e / 4)) d (printed_text s row)
  pub slots : ends ≡ written (printed s row (length d) (length e / 4)) e (all_bytes (ends_from 0 (texts s row)))
  pub demand : Demanded s row (printed s row (length d) (length e / 4)) out (ends_read ends)
