-- Worked examples of the numeral layer's definitions, one table: what a definition gives, as text, and what it should be.
use Rattle.refusals.specs.declared.Refusal.TheVariants.{LargeNumber}
use Rattle.std.specs.Prelude.{ℕ, ◌+◌, ◌^◌, Bool, true, false, ◌&&◌, List, [], ◌∷◌, ◌++◌, eqb, ℤ, pos, negsuc, nat_abs, None, Some, Err, Ok, Option}
use Prim.Native.Char.{code}
use Prim.Native.String.{String}
use Rattle.writing.specs.Text.{ascii}
use Rattle.writing.specs.Laid.{laid}
use Rattle.numerals.specs.Digits.{digits_in, places, letters_of, number_of, numeral, decimal}
use Rattle.numerals.specs.Grouping.{grouped}
use Rattle.numerals.specs.Integers.{int_of, bits_of}
use Rattle.specifiers.specs.Params.{param_at}
use Rattle.frames.specs.Frame.{framed, frame_of}
use Rattle.frames.specs.declared.Mark.TheVariants.{NoMark, Plus, Space, Minus, Brackets}
use Rattle.frames.specs.declared.Prefix.TheVariants.{NoPrefix, Octal, HexLower, HexUpper}
use Rattle.frames.specs.declared.Adjust.TheVariants.{Right, Left, Zeros}
use Rattle.binary64.specs.Fields.{negative, exponent_field, fraction_field, category_of, units, scaled_bits}
use Rattle.binary64.specs.declared.FpCategory.{FpCategory}
use Rattle.binary64.specs.declared.FpCategory.TheVariants.{Nan, Infinite, Finite}
use Rattle.binary64.specs.Rounding.{nearest_to, kept_digits}
use Rattle.binary64.specs.HexFloat.{hex_float_of}
use Rattle.hexfloats.specs.Texts.{hex_float_text}
use Rattle.reading.specs.Kept.{kept}
use Rattle.reading.specs.Nearness.{whole_at, value_at, apart}
use Rattle.reading.specs.Reading.{Reading, Unread, Integer, Bits, Float, read_piece}
use Rattle.refusals.specs.Numbers.{Parsed}

-- an integer, a parameter with the place behind it, and a reading (m, f and e of a float), each as text
abbrev pub shown_int : ℤ → List ℕ
shown_int (pos n) = decimal n
shown_int (negsuc n) = code "-" ∷ decimal (1 + n)

abbrev pub shown_taken : Parsed (Option ℕ) → List ℕ
shown_taken (Ok (Some n, next)) = decimal n ++ (code " " ∷ decimal next)
shown_taken (Ok (None, next)) = ascii "none " ++ decimal next
shown_taken (Err LargeNumber) = ascii "too large"
shown_taken (Err other) = ascii "refused"

abbrev pub shown_sign : Bool → List ℕ
shown_sign false = []
shown_sign true = code "-" ∷ []

abbrev pub shown_reading : Reading → List ℕ
shown_reading Unread = ascii "unread"
shown_reading (Integer z) = shown_int z
shown_reading (Bits n) = decimal n
shown_reading (Float r) = shown_sign r.negative ++ (decimal r.m ++ (code " " ∷ (decimal r.f ++ (code " " ∷ shown_int r.e))))

abbrev pub shown_category : FpCategory → List ℕ
shown_category Nan = ascii "NaN"
shown_category Infinite = ascii "infinite"
shown_category Finite = ascii "finite"

pub record Row : Type 0 where
  pub given : List ℕ
  pub text : String

abbrev pub rows : List Row
rows =
    record { given = laid (ascii "abcdef") (ascii "xy"); text = "xycdef" }
    ∷ record { given = numeral false 16 255; text = "ff" }
    ∷ record { given = numeral true 16 0xbeef; text = "BEEF" }
    ∷ record { given = numeral false 8 0; text = "0" }
    ∷ record { given = letters_of false (digits_in 16 4 255); text = "00ff" }
    ∷ record { given = decimal (places 10 1000); text = "4" }
    ∷ record { given = decimal (number_of 16 (10 ∷ 11 ∷ [])); text = "171" }
    ∷ record { given = grouped (decimal 1234567); text = "1,234,567" }
    ∷ record { given = grouped (decimal 123); text = "123" }
    ∷ record { given = shown_int (int_of 8 255); text = "-1" }
    ∷ record { given = decimal (nat_abs (int_of 64 (2 ^ 63))); text = "9223372036854775808" }
    ∷ record { given = decimal (bits_of 16 (negsuc 0)); text = "65535" }
    ∷ record { given = shown_taken (param_at false (ascii "%12d") 1); text = "12 3" }
    ∷ record { given = shown_taken (param_at false (ascii "%05d") 1); text = "none 1" }
    ∷ record { given = shown_taken (param_at true (ascii "%.007d") 2); text = "7 5" }
    ∷ record { given = shown_taken (param_at false (ascii "2147483647") 0); text = "2147483647 10" }
    ∷ record { given = shown_taken (param_at false (ascii "2147483648") 0); text = "too large" }
    ∷ record { given = framed (frame_of 5 Zeros Minus NoPrefix 1) (decimal 5); text = "-0005" }
    ∷ record { given = framed (frame_of 8 Left Brackets NoPrefix 1) (decimal 5); text = "(5)     " }
    ∷ record { given = framed (frame_of 1 Right Brackets NoPrefix 1) (decimal 5); text = "(5)" }
    ∷ record { given = framed (frame_of 6 Zeros NoMark HexLower 2) (numeral false 16 255); text = "0x00ff" }
    ∷ record { given = framed (frame_of 6 Right Plus NoPrefix 2) (decimal 42); text = "   +42" }
    ∷ record { given = framed (frame_of 0 Right Space Octal 1) (decimal 7); text = " 07" }
    ∷ record { given = framed (frame_of 3 Left NoMark HexUpper 1) (decimal 7); text = "0X7" }
    ∷ record { given = shown_sign (negative 0x8000_0000_0000_0000); text = "-" }
    ∷ record { given = shown_category (category_of 0x7ff0_0000_0000_0001); text = "NaN" }
    ∷ record { given = shown_category (category_of 0xfff0_0000_0000_0000); text = "infinite" }
    ∷ record { given = shown_category (category_of 0x8000_0000_0000_0000); text = "finite" }
    ∷ record { given = shown_category (category_of 0x7fef_ffff_ffff_ffff); text = "finite" }
    ∷ record { given = decimal (exponent_field 0x3ff0_0000_0000_0000); text = "1023" }
    ∷ record { given = decimal (fraction_field 0x3ff8_0000_0000_0000); text = "2251799813685248" }
    ∷ record { given = decimal (units 0x0020_0000_0000_0001); text = "9007199254740994" }
    ∷ record { given = decimal (units (scaled_bits 3)); text = "54043195528445952" }
    ∷ record { given = decimal (nearest_to 5 2); text = "2" }
    ∷ record { given = decimal (nearest_to 7 2); text = "4" }
    ∷ record { given = decimal (kept_digits 13 0x8000_0000_0000); text = "2" }
    ∷ record { given = hex_float_text false (hex_float_of 0 (Some 5)); text = "0.0p0" }
    ∷ record { given = hex_float_text false (hex_float_of 0x3ff0_0000_0000_0000 None); text = "1.0p0" }
    ∷ record { given = hex_float_text false (hex_float_of 0x3ff0_8000_0000_0000 None); text = "1.08p0" }
    ∷ record { given = hex_float_text false (hex_float_of 0x3ff0_8000_0000_0000 (Some 1)); text = "1.0p0" }
    ∷ record { given = hex_float_text false (hex_float_of 0x3ff1_8000_0000_0000 (Some 0)); text = "1.2p0" }
    ∷ record { given = hex_float_text false (hex_float_of 0x3fff_8000_0000_0000 (Some 1)); text = "1.0p1" }
    ∷ record { given = hex_float_text false (hex_float_of 0x7fef_ffff_ffff_ffff (Some 1)); text = "1.0p1024" }
    ∷ record { given = hex_float_text true (hex_float_of 0x3ffa_bcde_f012_3456 (Some 15)); text = "1.ABCDEF012345600P0" }
    ∷ record { given = hex_float_text false (hex_float_of 1 (Some 1)); text = "1.0p-1074" }
    ∷ record { given = hex_float_text false (hex_float_of 1 (Some 20)); text = "0.0000000000001p-1022" }
    ∷ record { given = kept (ascii " +1,2 F"); text = "12f" }
    ∷ record { given = shown_reading (read_piece (code "d") (ascii "  (1,234   )")); text = "-1234" }
    ∷ record { given = shown_reading (read_piece (code "d") (ascii "+007 ")); text = "7" }
    ∷ record { given = shown_reading (read_piece (code "d") (ascii "(7")); text = "unread" }
    ∷ record { given = shown_reading (read_piece (code "d") []); text = "unread" }
    ∷ record { given = shown_reading (read_piece (code "X") (ascii "0X00FF")); text = "255" }
    ∷ record { given = shown_reading (read_piece (code "x") (ascii "0")); text = "0" }
    ∷ record { given = shown_reading (read_piece (code "o") (ascii "  017")); text = "15" }
    ∷ record { given = shown_reading (read_piece (code "o") (ascii "18")); text = "unread" }
    ∷ record { given = shown_reading (read_piece (code "a") (ascii "-0x1.8p-3")); text = "-24 1 -3" }
    ∷ record { given = shown_reading (read_piece (code "A") (ascii "0X0001.08P10")); text = "264 2 10" }
    ∷ record { given = shown_reading (read_piece (code "a") (ascii " -0x0.0p0")); text = "-0 1 0" }
    ∷ record { given = shown_reading (read_piece (code "a") (ascii "0x1.p3")); text = "unread" }
    ∷ record { given = shown_reading (read_piece (code "s") (ascii "7")); text = "unread" }
    ∷ record { given = decimal (whole_at 10 3 1 (pos 2)); text = "768" }
    ∷ record { given = decimal (whole_at 10 3 1 (negsuc 1)); text = "48" }
    ∷ record { given = decimal (value_at 1076 1); text = "4" }
    ∷ record { given = decimal (apart true 3 true 5); text = "2" }
    ∷ record { given = decimal (apart false 3 true 5); text = "8" }
    ∷ []

abbrev pub same : List ℕ → List ℕ → Bool
same [] [] = true
same [] (y ∷ ys) = false
same (x ∷ xs) [] = false
same (x ∷ xs) (y ∷ ys) = eqb x y && same xs ys

abbrev pub all_right : List Row → Bool
all_right [] = true
all_right (r ∷ rs) = same r.given (ascii r.text) && all_right rs
