-- One piece more of a pass that prints: its text behind the texts so far, and its end behind their ends. Assumes nothing.
use Rattle.std.specs.Prelude.{Option, None, Some, Ok}
use mathlib.Core.Path.{◌≡◌, refl, sym, ap, ◌∙◌}
use mathlib.Core.List.{List, [], ◌∷◌, ◌++◌, append-nil}
use Prim.Native.Nat.{ℕ}
use lib.ListN.{length}
use Rattle.parsing.specs.Listed.{Placed}
use Rattle.elements.specs.Texts.{Shown, Text, Stops, text_of}
use Rattle.elements.specs.Sizes.{size_of}
use Rattle.elements.specs.PieceTexts.{shown_piece, piece_text}
use Rattle.outcomes.specs.Printed.{texts_of, joined, first_stop}
use Rattle.outcomes.proofs.Texts.{texts-length}
use Rattle.printing.specs.Tallies.{added, counted, tallied, with_end, laid_behind, shown_texts, laid_texts, laid_ends, Tally}
use Rattle.printing.proofs.Shown.{next_text, shown-one, shown-all}
use Rattle.printing.proofs.Counts.{unless_stop, tally-is}
use Rattle.printing.proofs.Fitting.{text-behind, empty_behind, end-behind}
use Rattle.refusals.specs.declared.Stop.{Stop}

-- what was added up over pieces is the length of their texts, unless one of them is not printed
tally-shown : (s row : List ℕ) (ps : List Placed) → tallied s row (Ok 0) ps ≡ unless_stop (first_stop s row ps) (length (joined (shown_texts s row ps)))
tally-shown s row ps = tally-is s row ps ∙ go (first_stop s row ps) refl
  where
    go : (y : Option Stop) → first_stop s row ps ≡ y
        → unless_stop y (length (joined (texts_of s row ps))) ≡ unless_stop y (length (joined (shown_texts s row ps)))
    go None q = ap (λ (ts : List (List ℕ)). Ok (length (joined ts))) (sym (shown-all s row ps q))
    go (Some t) q = refl

-- the texts ts of pieces, one piece more, and what was added up before it
module _ (s row : List ℕ) (ps : List Placed) (p : Placed) (ts : List (List ℕ)) (is : ts ≡ shown_texts s row ps) {t : Tally}
    (total : t ≡ tallied s row (Ok 0) ps) where
  found : t ≡ unless_stop (first_stop s row ps) (length (joined ts))
  found = total ∙ tally-shown s row ps ∙ ap (λ (l : List (List ℕ)). unless_stop (first_stop s row ps) (length (joined l))) (sym is)

  more : shown_texts s row (ps ++ (p ∷ [])) ≡ ts ++ next_text (first_stop s row ps) (shown_piece s row p.piece)
  more = shown-one s row ps p ∙ ap (λ (l : List (List ℕ)). l ++ next_text (first_stop s row ps) (shown_piece s row p.piece)) (sym is)

  -- over the start of d; by whether a piece before, or this one, is not printed
  module _ (d : List ℕ) {D : List ℕ} (bytes : D ≡ laid_texts ts d) (long : length D ≡ length d) where
    same_bytes : D ≡ laid_texts (ts ++ []) d
    same_bytes = bytes ∙ ap (λ (l : List (List ℕ)). laid_texts l d) (sym (append-nil ts))

    bytes_by : (y : Option Stop) (x : Shown) → laid_behind (unless_stop y (length (joined ts))) D (text_of x) ≡ laid_texts (ts ++ next_text y x) d
    bytes_by None (Text u) = text-behind ts d D bytes long u
    bytes_by None (Stops refusal) = empty_behind (length (joined ts)) D ∙ same_bytes
    bytes_by (Some y) x = same_bytes

    pub bytes_next : {out : List ℕ} → out ≡ laid_behind t D (piece_text s row p.piece) → out ≡ laid_texts (shown_texts s row (ps ++ (p ∷ []))) d
    bytes_next h =
        h ∙ ap (λ (x : Tally). laid_behind x D (piece_text s row p.piece)) found
        ∙ bytes_by (first_stop s row ps) (shown_piece s row p.piece)
        ∙ ap (λ (l : List (List ℕ)). laid_texts l d) (sym more)

  -- their ends over the start of e
  module _ (e : List ℕ) {E : List ℕ} {k : ℕ} (count : length ps ≡ k) (slots : E ≡ laid_ends ts e) (many : length E ≡ length e) where
    same-slots : E ≡ laid_ends (ts ++ []) e
    same-slots = slots ∙ ap (λ (l : List (List ℕ)). laid_ends l e) (sym (append-nil ts))

    slots_by : (y : Option Stop) → first_stop s row ps ≡ y → (x : Shown)
        → with_end k (added p.from (size_of x) (unless_stop y (length (joined ts)))) E ≡ laid_ends (ts ++ next_text y x) e
    slots_by None q (Text u) = end-behind ts u e E k (ap length (is ∙ shown-all s row ps q) ∙ texts-length s row ps ∙ count) many slots
    slots_by None q (Stops refusal) = same-slots
    slots_by (Some y) q x = same-slots

    pub slots_next : {r : Tally} {ends : List ℕ} → r ≡ counted s row p.piece p.from t → ends ≡ with_end k r E
        → ends ≡ laid_ends (shown_texts s row (ps ++ (p ∷ []))) e
    slots_next q h =
        h ∙ ap (λ (x : Tally). with_end k x E) (q ∙ ap (counted s row p.piece p.from) found)
        ∙ slots_by (first_stop s row ps) refl (shown_piece s row p.piece)
        ∙ ap (λ (l : List (List ℕ)). laid_ends l e) (sym more)
