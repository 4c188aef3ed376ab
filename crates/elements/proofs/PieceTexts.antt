-- What a piece's text and size are, by the piece; that an element that is found is suited to its argument, and that a text alone has the form of texts.
-- Assumes nothing.
use Rattle.std.specs.Prelude.{Option, None, Some, Ok, Err, length}
use Prim.Native.Nat.{ℕ, ◌≤◌}
use mathlib.Core.Path.{◌≡◌, refl, sym, ap, subst, ◌∙◌}
use mathlib.Core.Bool.{Bool, true, false, true≢false}
use mathlib.Core.List.{List}
use native.Mathlib.Omega.{arith}
use Rattle.kinds.specs.Kinds.{kind_in, fit_in}
use Rattle.kinds.specs.declared.letters.ConversionType.{ConversionType}
use Rattle.kinds.specs.declared.Kind.{Kind}
use Rattle.kinds.specs.declared.Kind.TheVariants as K
use Rattle.kinds.specs.declared.Form.{Form}
use Rattle.kinds.specs.declared.Form.TheVariants as F
use Rattle.kinds.proofs.Tables.{OfForm, form_of}
use Rattle.specifiers.specs.declared.Element.{Element}
use Rattle.parsing.specs.declared.Piece.TheVariants.{Element as AnElement}
use Rattle.rows.specs.Row.{count_of, kinds_of, entry_at, is_row}
use Rattle.parsing.specs.Covers.{PieceIn}
use Rattle.rows.proofs.Rows.{kinds-length, kind_byte}
use Rattle.rows.proofs.Arguments.{argument_names}
use Rattle.elements.proofs.Shown.{shown}
use Rattle.elements.specs.Texts.{Shown, Text, Stops, text_of, stop_of}
use Rattle.elements.specs.Sizes.{Size, size_of}
use Rattle.elements.specs.Ready.{Suited}
use Rattle.refusals.specs.declared.Refusal.{Refusal}

-- The size by what stops a text and by its length.
abbrev pub sized : Option Refusal → ℕ → Size
sized None n = Ok n
sized (Some refusal) n = Err refusal

pub size_by : (t : Shown) → size_of t ≡ sized (stop_of t) (length (text_of t))
size_by (Text t) = refl
size_by (Stops refusal) = refl

-- What nothing stops is its text.
pub shown-text : (t : Shown) → stop_of t ≡ None → t ≡ Text (text_of t)
shown-text (Text t) e = refl
shown-text (Stops refusal) e =
    let z : ◌≡◌ {A = ℕ} 0 1 = cc in
    absurd (omega arith)

-- An element that is found takes an argument of the row, and has the form of its kind.
pub found_suited : (s row : List ℕ) (e : Element) → is_row row ≡ true → PieceIn s (kinds_of row) (AnElement e) → Suited row e
unfolding entry_at
found_suited s row e kept i =
    let last : e.argument ≤ count_of row = omega (arith, i.1, kinds-length row kept) in
    let byte = kind_byte row e.argument i.0 last in
    record {
      argument = record { kept = kept; first = i.0; last = last };
      form = ap (λ (b : ℕ). fit_in e.conversion (kind_in b)) (sym byte) ∙ i.2;
    }

-- Text is the form of texts alone.
abbrev is_text : Form → Bool
is_text (F.Integer f k) = false
is_text F.HexFloat = false
is_text F.Boolean = false
is_text F.Text = true
is_text (F.Time x) = false
is_text F.NotPrinted = false

never : {f : Form} → f ≡ F.Text → is_text f ≡ false → ⊥
never q n = true≢false (sym (ap is_text q) ∙ n)

pub text_kind : (c : ConversionType) (k : Option Kind) → fit_in c k ≡ Some F.Text → k ≡ Some K.Text
text_kind c k q =
    subst (OfForm (λ f. f ≡ F.Text → k ≡ Some K.Text)) q
    (form_of (λ k f. f ≡ F.Text → k ≡ Some K.Text)
    (λ k h. absurd (never h refl)) (λ f k h. absurd (never h refl)) (λ h. absurd (never h refl)) (λ h. absurd (never h refl))
    (λ h. refl) (λ x h. absurd (never h refl)) c k) refl

pub ruleset entries = (shown, text_kind, argument_names)
