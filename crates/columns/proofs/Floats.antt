-- The piece of a finite value under %a and %A, read back, denotes the value as demand 3 says. Assumes nothing.
use Prim.Native.Nat.{ℕ}
use mathlib.Core.Path.{◌≡◌, refl, sym, ap, ◌∙◌}
use mathlib.Core.Bool.{Bool, true, false}
use mathlib.Core.List.{List, []}
use Rattle.specifiers.specs.Params.{width_of}
use Rattle.frames.specs.Frame.{closing}
use Rattle.frames.specs.Signs.{is_minus}
use Rattle.frames.specs.declared.Mark.{Mark}
use Rattle.frames.specs.declared.Prefix.{Prefix}
use Rattle.binary64.specs.Fields.{negative}
use Rattle.binary64.specs.HexFloat.{hex_float_of}
use Rattle.binary64.specs.declared.HexFloat.{HexFloat}
use Rattle.binary64.specs.declared.FpCategory.{FpCategory}
use Rattle.binary64.specs.declared.FpCategory.TheVariants as C
use Rattle.hexfloats.specs.Texts.{hex_float_text}
use Rattle.reading.specs.Reading.{Float, read_piece}
use Rattle.reading.proofs.Integers.{spaced}
use Rattle.reading.proofs.Floats.{scaled_of, hex_prefix as readPrefix}
use Rattle.reading.proofs.Pieces.{float-piece}
use Rattle.reading.proofs.Denotes.{denotes}
use Rattle.specifiers.specs.declared.flags.Flags.{Flags}
use Rattle.specifiers.specs.declared.Element.{Element}
use Rattle.elements.specs.Texts.{float_text}
use Rattle.numbers.specs.Numbers.{fill, hex_prefix, float_mark, finite_text}
use Rattle.columns.specs.Columns.{FloatRead}
use Rattle.columns.proofs.Forms.{float_letter, FiniteRead}
use Rattle.columns.proofs.Frames.{padded-read, sign_mark_lem}

-- the prefix that is printed is the one that is read
same_prefix : (u : Bool) → readPrefix u ≡ hex_prefix u
same_prefix false = refl
same_prefix true = refl

-- the mark says the sign, and nothing of it stands behind the digits
float_mark_lem : (f : Flags) (s : Bool) → (is_minus (float_mark f s) ≡ s) × (closing (float_mark f s) ≡ [])
float_mark_lem f true = (refl, refl)
float_mark_lem f false = sign_mark_lem f

finite_read : (e : Element) (v : ℕ) → FloatRead v e.precision (read_piece (float_letter e.upper) (finite_text e v))
finite_read e v =
    padded-read (λ (t : List ℕ). FloatRead v e.precision (read_piece (float_letter u) t)) m (hex_prefix u) body
    (λ a z i. record { number = scaled_of (negative v) h; read = read a z i; denotes = denotes v e.precision })
    (width_of e.width) (fill e.flags)
  where
    u : Bool
    u = e.upper

    m : Mark
    m = float_mark e.flags (negative v)

    h : HexFloat
    h = hex_float_of v e.precision

    body : List ℕ
    body = hex_float_text u h

    read : (a z i : ℕ) → read_piece (float_letter u) (spaced a m (hex_prefix u) z body i) ≡ Float (scaled_of (negative v) h)
    read a z i =
        let k = float_mark_lem e.flags (negative v) in
        ap (λ (p : Prefix). read_piece (float_letter u) (spaced a m p z body i)) (sym (same_prefix u))
        ∙ float-piece a m u z u v e.precision i k.1 u
        ∙ ap (λ (s : Bool). Float (scaled_of s h)) k.0

-- The piece of a float by its category: a NaN and an infinity have no number to read.
pub float_read : (e : Element) (c : FpCategory) (v : ℕ)
    → FiniteRead c v e.precision (read_piece (float_letter e.upper) (float_text e c v))
float_read e C.Nan v = tt
float_read e C.Infinite v = tt
float_read e C.Finite v = finite_read e v
