-- A text in a field of the element's width. 01, "A row printed, or only measured".
use Rattle.std.specs.Prelude.{ℕ, Bool, true, false, List, ◌∷◌, ℤ, nat_abs}
use Prim.Native.Char.{code}
use Rattle.writing.specs.Choose.{choose}
use Rattle.numerals.specs.Digits.{decimal}
use Rattle.numerals.specs.Integers.{is_negative}
use Rattle.specifiers.specs.Params.{width_of}
use Rattle.frames.specs.Frame.{padded}
use Rattle.frames.specs.declared.Mark.{Mark}
use Rattle.frames.specs.declared.Mark.TheVariants.{NoMark}
use Rattle.frames.specs.declared.Prefix.TheVariants.{NoPrefix}
use Rattle.frames.specs.declared.Adjust.{Adjust}
use Rattle.frames.specs.declared.Adjust.TheVariants.{Right, Left}
use Rattle.specifiers.specs.declared.flags.Flags.{Flags}
use Rattle.specifiers.specs.declared.Element.{Element}
use Rattle.fields.specs.Cut.{cut_to, cased}

-- Where the padding stands: `-` decides; "`0` pads with spaces" under %s, %c and %b.
abbrev pub side : Flags → Adjust
side f = choose f.left (λ _. Left) (λ _. Right)

-- A text in capitals or not, padded to the element's width.
abbrev pub padded_text : Element → Mark → List ℕ → List ℕ
padded_text e m t = padded (width_of e.width) (side e.flags) m NoPrefix (cased e.upper t)

-- `format_string`: a text, cut to the precision, in capitals or not, padded to the width.
abbrev pub format_string : Element → List ℕ → List ℕ
format_string e t = padded_text e NoMark (cut_to e.precision t)

-- An integer's digits as text.
abbrev pub with_minus : Bool → List ℕ → List ℕ
with_minus false t = t
with_minus true t = code "-" ∷ t

abbrev pub signed_text : ℤ → List ℕ
signed_text z = with_minus (is_negative z) (decimal (nat_abs z))
