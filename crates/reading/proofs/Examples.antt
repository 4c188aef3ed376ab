-- The worked examples hold. Assumes nothing.
use lib.Dec.{T}
use lib.Ieee.{mul, of_bits, to_bits}
use Rattle.writing.specs.Laid.{laid}
use Rattle.numerals.specs.Digits.{digits_in, places, places_within, digits, letter_of, letters_of, number_from, number_of, numeral}
use Rattle.numerals.specs.Grouping.{grouped}
use Rattle.numerals.specs.Integers.{int_of, bits_of}
use Rattle.specifiers.specs.Params.{leading_digits, number_taken, number_at, param_at}
use Rattle.frames.specs.Frame.{spaces, head_text, tail_text, framed, spare, frame_of}
use Rattle.binary64.specs.Fields.{negative, exponent_field, fraction_field, category_of, significand, units, scaled_bits}
use Rattle.binary64.specs.Rounding.{nearest_to, kept_digits}
use Rattle.binary64.specs.HexFloat.{shortest, rounded, hex_float_of}
use Rattle.hexfloats.specs.Texts.{exponent_text, hex_float_text}
use Rattle.reading.specs.Kept.{kept}
use Rattle.reading.specs.Nearness.{whole_at, value_at}
use Rattle.reading.specs.Reading.{digit_of, digits_from, whole_number, with_minus, before_close, read_decimal}
use Rattle.reading.specs.Reading.{after_prefix, read_bits, cut_at, read_magnitude, read_float, read_piece}
use Rattle.reading.specs.Examples.{rows, all_right}

pub examples : T (all_right rows)
unfolding laid digits_in places places_within digits letter_of letters_of number_from number_of numeral grouped int_of bits_of
    leading_digits number_taken number_at param_at spaces head_text tail_text framed spare frame_of negative exponent_field fraction_field category_of
    significand units scaled_bits mul of_bits to_bits nearest_to kept_digits shortest rounded hex_float_of exponent_text hex_float_text
    kept digit_of digits_from whole_number with_minus before_close read_decimal after_prefix read_bits cut_at read_magnitude read_float read_piece
    whole_at value_at
examples = tt
