-- The texts of pieces up to the first that is not printed: of one piece more, and of all where none is stopped. Assumes nothing.
use Rattle.std.specs.Prelude.{Option, None, Some}
use mathlib.Core.Path.{◌≡◌, refl, ap}
use mathlib.Core.List.{List, [], ◌∷◌, ◌++◌}
use Prim.Native.Nat.{ℕ}
use native.Mathlib.Omega.{arith}
use Rattle.parsing.specs.Listed.{Placed}
use Rattle.elements.specs.Texts.{Shown, Text, Stops, text_of, stop_of}
use Rattle.elements.specs.PieceTexts.{shown_piece}
use Rattle.outcomes.specs.Printed.{texts_of, stop_at, first_stop}
use Rattle.printing.specs.Tallies.{up_to, shown_texts}
use Rattle.refusals.specs.declared.Stop.{Stop}

-- The text of one piece more, unless one before it is not printed.
abbrev pub next_text : Option Stop → Shown → List (List ℕ)
next_text None x = up_to x []
next_text (Some t) x = []

module _ (s row : List ℕ) where
  pub shown-one : (ps : List Placed) (p : Placed)
      → shown_texts s row (ps ++ (p ∷ [])) ≡ shown_texts s row ps ++ next_text (first_stop s row ps) (shown_piece s row p.piece)
  unfolding first_stop shown_texts
  shown-one [] p = refl
  shown-one (q ∷ ps) p = go (shown_piece s row q.piece) (shown-one ps p)
    where
      go : (x : Shown) → shown_texts s row (ps ++ (p ∷ [])) ≡ shown_texts s row ps ++ next_text (first_stop s row ps) (shown_piece s row p.piece)
          → up_to x (shown_texts s row (ps ++ (p ∷ [])))
          ≡ up_to x (shown_texts s row ps) ++ next_text (stop_at (stop_of x) q.from (first_stop s row ps)) (shown_piece s row p.piece)
      go (Text t) ih = ap (λ (ts : List (List ℕ)). t ∷ ts) ih
      go (Stops number) ih = refl

  pub shown-all : (ps : List Placed) → first_stop s row ps ≡ None → shown_texts s row ps ≡ texts_of s row ps
  unfolding first_stop shown_texts texts_of
  shown-all [] e = refl
  shown-all (p ∷ ps) e = go (shown_piece s row p.piece) e (shown-all ps)
    where
      go : (x : Shown) → stop_at (stop_of x) p.from (first_stop s row ps) ≡ None → (first_stop s row ps ≡ None → shown_texts s row ps ≡ texts_of s row ps)
          → up_to x (shown_texts s row ps) ≡ text_of x ∷ texts_of s row ps
      go (Text t) e ih = ap (λ (ts : List (List ℕ)). t ∷ ts) (ih e)
      go (Stops number) e ih = absurd (let z : ◌≡◌ {A = ℕ} 0 1 = cc in omega arith)
