-- 01's table of cases, and rows of ours, hold of the definitions. Assumes nothing.
use lib.Dec.{T}
use lib.Ieee.{mul, of_bits, to_bits}
use Rattle.writing.specs.Text.{has}
use Rattle.numerals.specs.Digits.{digits_in, places_within, places, digits, number_from, number_of, letter_of, letters_of, numeral}
use Rattle.numerals.specs.Grouping.{grouped}
use Rattle.numerals.specs.Integers.{int_of}
use Rattle.specifiers.specs.Params.{leading_digits, number_taken, number_at, param_at}
use Rattle.words.specs.LittleEndian.{little_endian, word_at}
use Rattle.frames.specs.Frame.{spaces, head_text, tail_text, framed, spare, frame_of, padded}
use Rattle.binary64.specs.Fields.{negative, exponent_field, fraction_field, category_of, scaled_bits}
use Rattle.binary64.specs.HexFloat.{shortest, rounded, hex_float_of}
use Rattle.binary64.specs.Rounding.{nearest_to, kept_digits}
use Rattle.hexfloats.specs.Texts.{exponent_text, hex_float_text}
use Rattle.utf8.specs.Utf8.{lead_of, well_formed_from, well_formed}
use Rattle.kinds.specs.Letters.{time_of, small_of, capital_of}
use Rattle.kinds.specs.Kinds.{kind_of}
use Rattle.specifiers.specs.Flags.{leading_flags, first_clash, flags_at}
use Rattle.specifiers.specs.Specifier.{precision_at, letter_at, parts_at, specifier_at}
use Rattle.parsing.specs.Indexes.{index_at}
use Rattle.parsing.specs.Texts.{text_length}
use Rattle.parsing.specs.Pieces.{argument_at, element_at, piece_at}
use Rattle.parsing.specs.Listed.{placed_from, end_from, placed, ended}
use Rattle.utf8.specs.Scalars.{utf8_of}
use Rattle.fields.specs.Cut.{capital, back_to, cut_length, cut_to, cased}
use Rattle.rows.specs.Entry.{is_entry}
use Rattle.rows.specs.Row.{named_text, entry_at, entries_from, is_row}
use Rattle.calendar.specs.Dates.{is_leap, days_of, year_length, day_number, count_off, year_day, date_of}
use Rattle.calendar.specs.Moments.{epoch_day, since_year0, weekday_of, ordinal_of, moment_of}
use Rattle.dates.specs.Names.{name_of}
use Rattle.dates.specs.Components.{number_text, clock12, half, sign_text, name_text, symbol_text, symbols_text, component_text, is_early_fraction}
use Rattle.elements.specs.Texts.{element_text}
use Rattle.elements.specs.PieceTexts.{shown_piece}
use Rattle.outcomes.specs.Printed.{texts_of, texts, joined, printed_text, first_stop, measured_end, measured}
use Rattle.cases.specs.Cases.{cases, ours, dates, second_holds, all_hold}

pub theorem_cases : T (all_hold cases) × T (all_hold ours) × T (all_hold dates) × T second_holds
unfolding mul of_bits to_bits digits_in places_within places digits number_from number_of letter_of letters_of numeral grouped int_of
    leading_digits number_taken number_at param_at spaces head_text tail_text framed spare frame_of padded
    negative exponent_field fraction_field category_of scaled_bits shortest rounded hex_float_of exponent_text hex_float_text nearest_to kept_digits
    lead_of well_formed_from well_formed small_of capital_of kind_of
    has leading_flags first_clash flags_at precision_at letter_at parts_at specifier_at text_length index_at argument_at element_at piece_at placed_from end_from placed ended
    capital back_to cut_length cut_to cased utf8_of little_endian word_at is_entry named_text entry_at entries_from is_row
    time_of is_leap days_of year_length day_number count_off year_day date_of epoch_day since_year0 weekday_of ordinal_of moment_of
    name_of number_text clock12 half sign_text name_text symbol_text symbols_text component_text is_early_fraction
    element_text shown_piece texts_of texts joined printed_text first_stop measured_end measured
theorem_cases = (tt, tt, tt, tt)
