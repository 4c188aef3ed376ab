-- 01's reading rule, fed the bytes of a printed piece and its letter, gives the number that was printed. Assumes nothing.
use Rattle.std.specs.Prelude.{Option, Some}
use mathlib.Core.Path.{◌≡◌, ap}
use mathlib.Core.Bool.{Bool, true, false}
use mathlib.Core.List.{List, []}
use Prim.Native.Nat.{ℕ}
use Prim.Native.Char.{code}
use lib.Dec.{lit≤}
use Rattle.writing.specs.Choose.{choose}
use Rattle.numerals.specs.Digits.{digits, letters_of}
use Rattle.numerals.specs.Integers.{signed}
use Rattle.frames.specs.Frame.{closing}
use Rattle.frames.specs.Signs.{is_minus}
use Rattle.frames.specs.declared.Mark.{Mark}
use Rattle.frames.specs.declared.Mark.TheVariants.{NoMark}
use Rattle.frames.specs.declared.Prefix.{Prefix}
use Rattle.frames.specs.declared.Prefix.TheVariants.{NoPrefix}
use Rattle.binary64.specs.HexFloat.{hex_float_of}
use Rattle.hexfloats.specs.Texts.{hex_float_text}
use Rattle.reading.specs.Kept.{kept}
use Rattle.reading.specs.Reading.{Integer, Bits, Float, reading, read_float, read_piece}
use Rattle.reading.proofs.Integers.{spaced, decimal-back, bits_back}
use Rattle.reading.proofs.Floats.{scaled_of, hex_prefix, float_back}
use Rattle.reading.proofs.Forms.{well_formed_lem}

-- %d: the integer with the mark's sign and the magnitude n.
pub decimal-piece : (a : ℕ) (m : Mark) (z : ℕ) (body : List ℕ) (i n : ℕ) → kept body ≡ letters_of false (digits 10 n)
    → read_piece (code "d") (spaced a m NoPrefix z body i) ≡ Integer (signed (is_minus m) n)
unfolding read_piece
decimal-piece a m z body i n e = ap (reading Integer) (decimal-back a m z body i n e)

-- %x, %X and %o: the bits n.
pub hex_piece : (u : Bool) (a : ℕ) (p : Prefix) (z : ℕ) (body : List ℕ) (i n : ℕ) → kept body ≡ letters_of false (digits 16 n)
    → read_piece (choose u (λ _. code "X") (λ _. code "x")) (spaced a NoMark p z body i) ≡ Bits n
unfolding read_piece
hex_piece false a p z body i n e = ap (reading Bits) (bits_back a p z body i 16 n (lit≤ tt) (lit≤ tt) e)
hex_piece true a p z body i n e = ap (reading Bits) (bits_back a p z body i 16 n (lit≤ tt) (lit≤ tt) e)

pub octal_piece : (a : ℕ) (p : Prefix) (z : ℕ) (body : List ℕ) (i n : ℕ) → kept body ≡ letters_of false (digits 8 n)
    → read_piece (code "o") (spaced a NoMark p z body i) ≡ Bits n
unfolding read_piece
octal_piece a p z body i n e = ap (reading Bits) (bits_back a p z body i 8 n (lit≤ tt) (lit≤ tt) e)

-- %a and %A: the number that the parts make, which `Denotes` says more of.
module _ (a : ℕ) (m : Mark) (w : Bool) (z : ℕ) (v : Bool) (b : ℕ) (p : Option ℕ) (i : ℕ) (c : closing m ≡ []) where
  parts_back : read_float (kept (spaced a m (hex_prefix w) z (hex_float_text v (hex_float_of b p)) i)) ≡ Some (scaled_of (is_minus m) (hex_float_of b p))
  parts_back = let k = well_formed_lem b p in float_back a m w z v (hex_float_of b p) i c k.one_digit k.below

  pub float-piece : (u : Bool) → read_piece (choose u (λ _. code "A") (λ _. code "a")) (spaced a m (hex_prefix w) z (hex_float_text v (hex_float_of b p)) i)
      ≡ Float (scaled_of (is_minus m) (hex_float_of b p))
  unfolding read_piece
  float-piece false = ap (reading Float) parts_back
  float-piece true = ap (reading Float) parts_back
