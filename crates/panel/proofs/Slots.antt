-- What a pass leaves in slots, and ends as bytes read again. Assumes nothing.
use Rattle.std.specs.Prelude.{Ok, Err}
use mathlib.Core.Path.{◌≡◌, refl, sym, ap, subst, ◌∙◌}
use mathlib.Core.List.{List, ◌++◌}
use Prim.Native.Nat.{ℕ, suc, ◌/◌, ◌^◌, ◌≤◌, ◌<◌}
use native.Mathlib.Omega.{arith}
use Rattle.std.proofs.lemmas.Result.{err_from_is_err_and}
use lib.ListN.{length, get_or, take, drop, length-take}
use lib.Seq.{take_at, drop_at, length-take-le}
use Rattle.parsing.proofs.Cover.{few}
use Rattle.writing.specs.Laid.{laid}
use Rattle.parsing.specs.Listed.{placed}
use Rattle.rows.specs.Row.{kinds_of}
use Rattle.rows.proofs.Rows.{AllBytes}
use Rattle.outcomes.specs.Printed.{Outcome, texts, printed_text, ends_from, printed, written}
use Rattle.printing.specs.Stages.{Staged}
use Rattle.printing.proofs.Staged.{staged_text, staged_ends}
use Rattle.outcomes.specs.Demand.{Demanded}
use Rattle.outcomes.specs.declared.Measured.{Measured}
use Rattle.outcomes.proofs.Joined.{ends_length, nth_end, joined_part}
use Rattle.outcomes.proofs.Texts.{texts-length}
use Rattle.outcomes.proofs.Accepted.{Fitted, fitted}
use Rattle.outcomes.proofs.Demand.{demand}
use Rattle.words.specs.LittleEndian.{all_bytes}
use Rattle.panel.specs.Entries.{print_answer, ends_read, Holds, Prints, PanelPrints}
use Rattle.panel.specs.declared.PrintAnswer.{PrintAnswer}
use Rattle.panel.proofs.Ends.{read_again}

-- bytes over the start of e, read as ends, are those ends and what is read behind them
read_over : (E e : List ℕ) → ((i : ℕ) → i < length E → get_or E i 0 < 2 ^ 32)
    → ends_read (laid e (all_bytes E)) ≡ laid (E ++ ends_read (drop (length (all_bytes E)) e)) E
unfolding laid
read_over E e h =
    let X = ends_read (drop (length (all_bytes E)) e) in
    read_again E (drop (length (all_bytes E)) e) h ∙ ap (λ (l : List ℕ). E ++ l) (sym (drop_at E X (length E) refl))

module _ (s row : List ℕ) where
  as_many : length (ends_from 0 (texts s row)) ≡ length (placed s (kinds_of row))
  unfolding texts
  as_many = ends_length 0 (texts s row) ∙ texts-length s row (placed s (kinds_of row))

  -- Of what is printed: what a pass leaves of D and E, and that it can be taken from there again.
  module _ (room slots : ℕ) (m : Measured) (f : Fitted s row room slots m) (D E out ends : List ℕ) (w : Staged s row D E out ends) where
    pub text_of : m.length ≤ length D → out ≡ laid D (printed_text s row)
    text_of h = staged_text s row f.answer w (omega (arith, f.accepts.total))

    pub ends_of : m.pieces ≤ length E → take m.pieces ends ≡ ends_from 0 (texts s row)
    unfolding laid
    ends_of h =
        let Z = ends_from 0 (texts s row) in
        let all = staged_ends s row f.answer w (omega (arith, f.accepts.pieces)) (omega (arith, f.accepts.total, f.wide)) in
        ap (take m.pieces) all ∙ take_at Z (drop (length Z) E) m.pieces (as_many ∙ sym f.accepts.pieces)

    pub holds : length out ≡ length D → length ends ≡ length E → Holds s row m.length m.pieces out ends
    unfolding laid
    holds long many = λ h j.
        let T = printed_text s row in
        let n_fits : m.length ≤ length D = omega (arith, long) in
        let k_fits : m.pieces ≤ length E = omega (arith, many) in
        (ap (take m.length) (text_of n_fits) ∙ take_at T (drop (length T) D) m.length (sym f.accepts.total), ends_of k_fits)

  -- demand 3 of the bytes, read as ends
  small : (room slots : ℕ) (m : Measured) → Fitted s row room slots m → (i : ℕ) → i < length (ends_from 0 (texts s row))
      → get_or (ends_from 0 (texts s row)) i 0 < 2 ^ 32
  unfolding printed_text
  small room slots m f i h =
      let l = texts s row in
      let j : i < length l = omega (arith, ends_length 0 l) in
      omega (arith, nth_end 0 l i j, joined_part (suc i) l, f.wide, f.accepts.total)

  pub demanded : (room slots : ℕ) (o : Outcome) → printed s row room slots ≡ o → AllBytes row → (out d e : List ℕ) → out ≡ written o d (printed_text s row)
      → Demanded s row o out (ends_read (written o e (all_bytes (ends_from 0 (texts s row)))))
  demanded room slots (Ok m) q bytes out d e h =
      let f = fitted s row room slots m q in
      let E = ends_from 0 (texts s row) in
      let past = ends_read (drop (length (all_bytes E)) e) in
      demand s row m.length m.pieces f.accepts d (E ++ past) out (ends_read (laid e (all_bytes E))) h (read_over E e (small room slots m f)) bytes
  demanded room slots (Err t) q bytes out d e h = tt

  -- what the entry says of a call that prints
  pub prints : (d e : List ℕ) (o : Outcome) (out ends : List ℕ) → Prints s row d e o out ends → AllBytes row → (a : PrintAnswer) → a ≡ print_answer o
      → PanelPrints s row d e a out ends
  prints d e o out ends w bytes a q =
      let x = w.answer in
      let y = w.bytes ∙ ap (λ (o : Outcome). written o d (printed_text s row)) x in
      let z = w.slots ∙ ap (λ (o : Outcome). written o e (all_bytes (ends_from 0 (texts s row)))) x in
      let v = demanded (length d) (length e / 4) _ refl bytes out d e y in
      record {
        answer = q ∙ ap print_answer x;
        bytes = y;
        slots = z;
        demand = subst (λ (l : List ℕ). Demanded s row (printed s row (length d) (length e / 4)) out (ends_read l)) (sym z) v;
      }

pub ruleset slots = (fitted, length-take, length-take-le, few)

pub ruleset staged = (fitted, err_from_is_err_and)
