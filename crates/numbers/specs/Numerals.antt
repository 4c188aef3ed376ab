-- Numerals as the code makes them. No contract of an entry speaks of these.
use Rattle.std.specs.Prelude.{ℕ, ◌%◌, ◌^◌, Bool, false, List, ℤ, nat_abs}
use Rattle.writing.specs.Choose.{choose}
use Rattle.numerals.specs.Bases.{base_of}
use Rattle.numerals.specs.Digits.{numeral, decimal}
use Rattle.numerals.specs.Grouping.{grouped}
use Rattle.numerals.specs.Integers.{integer_of, is_negative}
use Rattle.frames.specs.declared.Mark.TheVariants.{NoMark}
use Rattle.frames.specs.declared.Prefix.{Prefix}
use Rattle.frames.specs.declared.Prefix.TheVariants.{NoPrefix, Octal}
use Rattle.numerals.specs.declared.Radix.{Radix}
use Rattle.numerals.specs.declared.Radix.TheVariants as R
use Rattle.kinds.specs.declared.IntegerKind.{IntegerKind}
use Rattle.specifiers.specs.declared.flags.Flags.{Flags}
use Rattle.specifiers.specs.declared.Element.{Element}
use Rattle.numbers.specs.Numbers.{integer_mark, if_alternate, hex_prefix}
use Rattle.numbers.specs.declared.Numeral.{Numeral}

-- The digits of a numeral; where it is grouped, in decimal with commas.
abbrev pub digits_text : Numeral → List ℕ
digits_text n = choose n.grouped (λ _. grouped (decimal n.value)) (λ _. numeral n.upper (base_of n.radix) n.value)

-- The numeral of %d, of %x and %o, and that of an integer of the kind k with the pattern v in each base.
abbrev pub decimal_numeral : Flags → ℤ → Numeral
decimal_numeral f z =
    record {
      mark = integer_mark f (is_negative z);
      prefix = NoPrefix;
      value = nat_abs z;
      radix = R.Decimal;
      upper = false;
      grouped = f.grouping;
    }

abbrev pub unsigned_numeral : Prefix → Radix → Bool → ℕ → Numeral
unsigned_numeral p r upper n = record { mark = NoMark; prefix = p; value = n; radix = r; upper = upper; grouped = false }

abbrev pub numeral_of : Element → Radix → IntegerKind → ℕ → Numeral
numeral_of e R.Decimal k v = decimal_numeral e.flags (integer_of k.signed v)
numeral_of e R.Octal k v = unsigned_numeral (if_alternate e.flags Octal) R.Octal false (v % 2 ^ k.width)
numeral_of e R.Hexadecimal k v =
    unsigned_numeral (if_alternate e.flags (hex_prefix e.upper)) R.Hexadecimal e.upper (v % 2 ^ k.width)
