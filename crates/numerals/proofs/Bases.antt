-- Laws of the three bases. Assumes nothing.
use Rattle.std.proofs.Common.{ℕ, ◌^◌, ◌<◌, ◌≤◌, arith, lit≤}
use Rattle.numerals.specs.Digits.{places}
use Rattle.numerals.specs.Bases.{base_of}
use Rattle.numerals.specs.declared.Radix.{Radix}
use Rattle.numerals.specs.declared.Radix.TheVariants.{Decimal, Octal, Hexadecimal}
use Rattle.numerals.proofs.Digits.{places_le}

-- how many digits a number of 64 bits has
pub based_places : (r : Radix) (n : ℕ) → n < 2 ^ 64 → places (base_of r) n ≤ 22
based_places Decimal n h = places_le 10 21 n (lit≤ tt) (omega arith)
based_places Octal n h = places_le 8 21 n (lit≤ tt) (omega arith)
based_places Hexadecimal n h = places_le 16 21 n (lit≤ tt) (omega arith)
