-- The answer of an accepted call, from the output and the ends that printing left. Assumes nothing.
use Rattle.std.specs.Prelude.{Ok}
use mathlib.Core.Path.{◌≡◌, sym, ap, ◌∙◌}
use mathlib.Core.List.{List}
use Prim.Native.Nat.{ℕ}
use lib.ListN.{length, take, drop, length-take}
use lib.Seq.{take_at, length-take-le}
use Rattle.writing.specs.Laid.{laid}
use Rattle.parsing.specs.Listed.{placed}
use Rattle.rows.specs.Row.{kinds_of}
use Rattle.outcomes.specs.Printed.{Outcome, texts, printed_text, ends_from, printed}
use Rattle.outcomes.specs.declared.Measured.{Measured}
use Rattle.outcomes.proofs.Joined.{ends_length}
use Rattle.outcomes.proofs.Texts.{texts-length}
use Rattle.outcomes.proofs.Accepted.{Fitted, fitted}
use Rattle.answers.specs.Answers.{room, slots, outcome_text, printed_answer}

module _ (s row : List ℕ) (m : Measured) (q : printed s row room slots ≡ Ok m) where
  pub fits : Fitted s row room slots m
  fits = fitted s row room slots m q

  text-long : length (printed_text s row) ≡ m.length
  text-long = sym fits.accepts.total

  ends_many : length (ends_from 0 (texts s row)) ≡ m.pieces
  unfolding texts
  ends_many = ends_length 0 (texts s row) ∙ texts-length s row (placed s (kinds_of row)) ∙ sym fits.accepts.pieces

  -- the text and the ends are where printing left them
  text_left : (d out : List ℕ) → out ≡ laid d (printed_text s row) → take m.length out ≡ printed_text s row
  unfolding laid
  text_left d out e = let t = printed_text s row in ap (take m.length) e ∙ take_at t (drop (length t) d) m.length text-long

  ends_left : (d ends : List ℕ) → ends ≡ laid d (ends_from 0 (texts s row)) → take m.pieces ends ≡ ends_from 0 (texts s row)
  unfolding laid
  ends_left d ends e = let t = ends_from 0 (texts s row) in ap (take m.pieces) e ∙ take_at t (drop (length t) d) m.pieces ends_many

  abbrev told : List ℕ → List ℕ → Outcome
  told text ends = Ok (record { length = length text; pieces = length ends })

  pub accepted_answer : (c d out ends : List ℕ) → out ≡ laid c (printed_text s row) → ends ≡ laid d (ends_from 0 (texts s row))
      → outcome_text (told (take m.length out) (take m.pieces ends)) (take m.length out) (take m.pieces ends) ≡ printed_answer s row
  accepted_answer c d out ends e f =
      let t = printed_text s row in
      let u = ends_from 0 (texts s row) in
      let lengths : record { length = length t; pieces = length u } ≡ m =
      ap (λ (n : ℕ). record { length = n; pieces = length u }) text-long ∙ ap (λ (n : ℕ). record { length = m.length; pieces = n }) ends_many in
      ap (λ (x : List ℕ). outcome_text (told x (take m.pieces ends)) x (take m.pieces ends)) (text_left c out e)
      ∙ ap (λ (x : List ℕ). outcome_text (told t x) t x) (ends_left d ends f)
      ∙ ap (λ (x : Outcome). outcome_text x t u) (ap Ok lengths ∙ sym q)

pub ruleset printing = (fits, length-take, length-take-le)
