-- An element behind its argument index. Java, "Format String Syntax": index, flags, width, precision and conversion, in this order.
use Rattle.std.specs.Prelude.{ℕ, ◌+◌, Bool, true, false, List, [], ◌∷◌, eqb, drop, None, Option, Some, Ok, Err}
use Prim.Native.Char.{code}
use Rattle.writing.specs.Choose.{choose}
use Rattle.specifiers.specs.Params.{param_at}
use Rattle.kinds.specs.Letters.{time_of, small_of, capital_of}
use Rattle.kinds.specs.Kinds.{fit_in}
use Rattle.kinds.specs.declared.Kind.{Kind}
use Rattle.kinds.specs.declared.letters.ConversionType.{ConversionType}
use Rattle.kinds.specs.declared.letters.ConversionType.TheVariants.{Time}
use Rattle.specifiers.specs.Flags.{flags_at}
use Rattle.specifiers.specs.declared.flags.Flags.{Flags}
use Rattle.specifiers.specs.declared.Parts.{Parts}
use Rattle.specifiers.specs.declared.Element.{Element}
use Rattle.refusals.specs.Numbers.{Parsed}
use Rattle.refusals.specs.declared.Refusal.TheVariants.{NoLetter, NoTimeLetter, UnfitLetter}
use Rattle.kinds.specs.declared.Form.{Form}
use Rattle.kinds.specs.declared.letters.TimeFormat.{TimeFormat}

-- Whether a text begins with the byte b.
abbrev pub begins_with : ℕ → List ℕ → Bool
begins_with b [] = false
begins_with b (c ∷ cs) = eqb c b

-- 01: "Then `.` with digits or with none; none means no precision."
unfoldable pub precision_at : List ℕ → ℕ → Parsed (Option ℕ)
precision_at s at = choose (begins_with (code ".") (drop at s)) (λ _. param_at true s (at + 1)) (λ _. Ok (None, at))

-- The letter at the front of a text, from the place at on, and whether it is a capital. 01's table: 10 for "no such letter, or end", 11 for "no such time
-- letter, or end".
abbrev pub capital_taken : Option ConversionType → ℕ → Parsed (ConversionType × Bool)
capital_taken (Some c) at = Ok ((c, true), at + 1)
capital_taken None at = Err NoLetter

abbrev pub one_letter : Option ConversionType → Option ConversionType → ℕ → Parsed (ConversionType × Bool)
one_letter (Some c) capital at = Ok ((c, false), at + 1)
one_letter None capital at = capital_taken capital at

abbrev pub time_letter : Bool → Option TimeFormat → ℕ → Parsed (ConversionType × Bool)
time_letter upper (Some x) at = Ok ((Time x, upper), at + 2)
time_letter upper None at = Err NoTimeLetter

abbrev pub second_letter : Bool → List ℕ → ℕ → Parsed (ConversionType × Bool)
second_letter upper [] at = Err NoTimeLetter
second_letter upper (b ∷ bs) at = time_letter upper (time_of b) at

abbrev pub letter_from : List ℕ → ℕ → Parsed (ConversionType × Bool)
letter_from [] at = Err NoLetter
letter_from (b ∷ bs) at =
    choose (eqb b (code "t")) (λ _. second_letter false bs at)
    (λ _. choose (eqb b (code "T")) (λ _. second_letter true bs at) (λ _. one_letter (small_of b) (capital_of b) at))

unfoldable pub time_letter_at : List ℕ → ℕ → Bool → Parsed (ConversionType × Bool)
time_letter_at s at upper = second_letter upper (drop (at + 1) s) at

unfoldable pub letter_at : List ℕ → ℕ → Parsed (ConversionType × Bool)
letter_at s at = letter_from (drop at s) at

-- Flags, width and precision from the place at on, and the place behind them. A number that is too large is refused where it stands.
abbrev pub after_precision : Flags → Option ℕ → Parsed (Option ℕ) → Parsed Parts
after_precision f w (Ok (p, at)) = Ok (record { flags = f; width = w; precision = p }, at)
after_precision f w (Err r) = Err r

abbrev pub after_width : List ℕ → Flags → Parsed (Option ℕ) → Parsed Parts
after_width s f (Ok (w, at)) = after_precision f w (precision_at s at)
after_width s f (Err r) = Err r

abbrev pub after_flags : List ℕ → Parsed Flags → Parsed Parts
after_flags s (Ok (f, at)) = after_width s f (param_at false s at)
after_flags s (Err r) = Err r

unfoldable pub parts_at : List ℕ → ℕ → Parsed Parts
parts_at s at = after_flags s (flags_at s at)

-- The element of the argument a, which has the kind k, read from the place at on: these, the letter, and 12 where the "letter does not fit the kind".
abbrev pub fitted : ℕ → Parts → ConversionType → Bool → ℕ → Option Form → Parsed Element
fitted a x c u at (Some f) =
    Ok (record { argument = a; flags = x.flags; width = x.width; precision = x.precision; conversion = c; upper = u; form = f }, at)
fitted a x c u at None = Err UnfitLetter

abbrev pub after_letter : ℕ → Option Kind → Parts → Parsed (ConversionType × Bool) → Parsed Element
after_letter a k x (Ok (l, at)) = fitted a x l.0 l.1 at (fit_in l.0 k)
after_letter a k x (Err r) = Err r

abbrev pub after_parts : List ℕ → ℕ → Option Kind → Parsed Parts → Parsed Element
after_parts s a k (Ok (x, at)) = after_letter a k x (letter_at s at)
after_parts s a k (Err r) = Err r

unfoldable pub specifier_at : List ℕ → ℕ → ℕ → Option Kind → Parsed Element
specifier_at s at a k = after_parts s a k (parts_at s at)
