-- What demand 3 says of the piece of one element, read back. 01, "Reading a piece back" and "What demand 3 compares".
use Rattle.std.specs.Prelude.{ℕ, ◌≡◌, true, false, List, Option}
use Prim.Native.Char.{code}
use Rattle.writing.specs.Text.{ascii, has}
use Rattle.numerals.specs.Integers.{bits_of}
use Rattle.binary64.specs.Fields.{category_of}
use Rattle.binary64.specs.declared.FpCategory.TheVariants.{Finite}
use Rattle.reading.specs.Reading.{Scaled, Reading, Integer, Bits, Float, read_piece}
use Rattle.reading.specs.Nearness.{Denotes}
use Rattle.rows.specs.Entry.{integer_kind_of, integer_in}
use Rattle.rows.specs.declared.entries.Entry.{Entry}

-- A number with a power of two was read, and it denotes the finite value with the bits b as demand 3 says for the precision p.
pub record FloatRead (b : ℕ) (p : Option ℕ) (r : Reading) : Type 0 where
  pub number : Scaled
  pub read : r ≡ Float number
  pub denotes : Denotes b p number

-- "The rule is fed the piece's bytes and the element's letter, nothing else": what the bytes t, read so, say of the entry x. Null has no number to read, nor
-- has a NaN or an infinity; p is the element's precision, by which a float is exact or nearest.
pub record ReadsBack (letter : ℕ) (x : Entry) (p : Option ℕ) (t : List ℕ) : Type 0 where
  -- %d is "the integer"
  pub integer : letter ≡ code "d" → x.null ≡ false → read_piece letter t ≡ Integer (integer_in x)
  -- %x, %X and %o: "Two's complement bits are the integer, plus 2 to the kind's width where negative."
  pub bits : has (ascii "xXo") letter ≡ true → x.null ≡ false → read_piece letter t ≡ Bits (bits_of (integer_kind_of x.kind).width (integer_in x))
  -- %a and %A of a finite value
  pub float : has (ascii "aA") letter ≡ true → category_of x.value ≡ Finite → FloatRead x.value p (read_piece letter t)
