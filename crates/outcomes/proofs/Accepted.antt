-- What an accepted format and row have. Assumes nothing.
use Rattle.std.specs.Prelude.{Option, None, Some, Err, Ok}
use mathlib.Core.Path.{◌≡◌, refl, subst}
use mathlib.Core.Bool.{true, ◌&&◌}
use mathlib.Core.List.{List}
use Prim.Native.Nat.{ℕ, ◌≤◌}
use lib.Dec.{leb, ltb}
use lib.ListN.{length}
use borrow.Author.Tests.{leb-true}
use Rattle.refusals.specs.Limits.{most_format, largest_end}
use Rattle.writing.proofs.Choose.{by_test, both}
use Rattle.utf8.specs.Utf8.{well_formed}
use Rattle.parsing.specs.Listed.{placed, ended, Ended}
use Rattle.rows.specs.Row.{kinds_of, is_row}
use Rattle.outcomes.specs.Printed.{printed_text, first_stop, unless_stopped, measured_end, measured, if_room, printed, Outcome}
use Rattle.outcomes.specs.declared.Measured.{Measured}
use Rattle.refusals.specs.declared.Stop.{Stop}

pub record Accepts (s row : List ℕ) (n k : ℕ) : Type 0 where
  pub kept : is_row row ≡ true
  pub finished : ended s (kinds_of row) ≡ Ok tt
  pub total : n ≡ length (printed_text s row)
  pub pieces : k ≡ length (placed s (kinds_of row))
  pub unstopped : first_stop s row (placed s (kinds_of row)) ≡ None

abbrev Says : List ℕ → List ℕ → Outcome → Type 0
Says s row (Ok m) = Accepts s row m.length m.pieces
Says s row (Err stopped) = Unit {0}

module _ (s row : List ℕ) where
  says_end : is_row row ≡ true → (x : Ended) → ended s (kinds_of row) ≡ x → Says s row (measured_end s row x)
  unfolding measured_end
  says_end r (Ok done) end = go (first_stop s row (placed s (kinds_of row))) refl
    where
      go : (x : Option Stop) → first_stop s row (placed s (kinds_of row)) ≡ x
          → Says s row (unless_stopped x (Ok (record { length = length (printed_text s row); pieces = length (placed s (kinds_of row)) })))
      go None q = record { kept = r; finished = end; total = refl; pieces = refl; unstopped = q }
      go (Some t) q = tt
  says_end r (Err stopped) end = tt

  says : Says s row (measured s row)
  unfolding measured
  says =
      by_test (Says s row) (ltb most_format (length s)) _ _ (λ _. tt)
      (λ _. by_test (Says s row) (well_formed s) _ _
      (λ _. by_test (Says s row) (is_row row) _ _ (λ r. says_end r (ended s (kinds_of row)) refl) (λ _. tt)) (λ _. tt))

  pub accepted : (m : Measured) → measured s row ≡ Ok m → Accepts s row m.length m.pieces
  accepted m e = subst (Says s row) e says

-- What a format and row have that are printed into so much room.
pub record Fitted (s row : List ℕ) (room slots : ℕ) (m : Measured) : Type 0 where
  pub answer : measured s row ≡ Ok m
  pub accepts : Accepts s row m.length m.pieces
  pub bytes : m.length ≤ room
  pub wide : m.length ≤ largest_end
  pub slots_enough : m.pieces ≤ slots

abbrev Fits : List ℕ → List ℕ → ℕ → ℕ → Outcome → Type 0
Fits s row room slots (Ok m) = Fitted s row room slots m
Fits s row room slots (Err stopped) = Unit {0}

module _ (s row : List ℕ) (room slots : ℕ) where
  fits : (x : Outcome) → measured s row ≡ x → Fits s row room slots (if_room room slots x)
  fits (Ok m) e =
      by_test (Fits s row room slots) (leb m.length room && leb m.length largest_end && leb m.pieces slots) _ _ enough (λ _. tt)
    where
      enough : (leb m.length room && leb m.length largest_end && leb m.pieces slots) ≡ true → Fitted s row room slots m
      enough h =
          let p = both (leb m.length room && leb m.length largest_end) (leb m.pieces slots) h in
          let q = both (leb m.length room) (leb m.length largest_end) p.0 in
          record {
            answer = e;
            accepts = accepted s row m e;
            bytes = leb-true m.length room q.0;
            wide = leb-true m.length largest_end q.1;
            slots_enough = leb-true m.pieces slots p.1;
          }
  fits (Err stopped) e = tt

  pub fitted : (m : Measured) → printed s row room slots ≡ Ok m → Fitted s row room slots m
  unfolding printed
  fitted m e = subst (Fits s row room slots) e (fits (measured s row) refl)
