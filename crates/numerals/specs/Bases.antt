-- The base that a function of this crate is told. No contract of an entry speaks of this.
use Rattle.std.specs.Prelude.{ℕ}
use Rattle.numerals.specs.declared.Radix.{Radix}
use Rattle.numerals.specs.declared.Radix.TheVariants.{Decimal, Octal, Hexadecimal}

-- 01, "Reading a piece back": "%d: decimal digits"; "%x, %o: .. digits in base 16 or 8".
abbrev pub base_of : Radix → ℕ
base_of Decimal = 10
base_of Octal = 8
base_of Hexadecimal = 16
