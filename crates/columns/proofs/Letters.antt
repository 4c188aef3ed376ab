-- The letter that stands in a format says in which form a value is printed. Assumes nothing.
use Rattle.std.specs.Prelude.{Ok}
use Prim.Native.Nat.{ℕ}
use Prim.Native.Char.{code}
use mathlib.Core.Path.{ap, ◌≡◌, refl, sym, ◌∙◌}
use mathlib.Core.Bool.{Bool, true, false, ◌||◌}
use mathlib.Core.List.{List, [], ◌∷◌}
use lib.Dec.{eqb}
use borrow.Author.Tests.{eqb-true}
use Rattle.writing.specs.Text.{has}
use Rattle.kinds.specs.Letters.{small_of, capital_of}
use Rattle.kinds.specs.declared.letters.ConversionType.{ConversionType}
use Rattle.kinds.specs.declared.letters.ConversionType.TheVariants.{Integer, HexFloat}
use Rattle.numerals.specs.declared.Radix.TheVariants as R
use Rattle.specifiers.specs.Specifier.{letter_from}
use Rattle.refusals.proofs.Parsed.{same_read}

-- That a letter names a conversion, in capitals or not.
abbrev pub NamedBy : ℕ → ConversionType → Bool → Type 0
NamedBy letter c u = letter_from (letter ∷ []) 0 ≡ Ok ((c, u), 1)

-- one of the bytes of a text
pub among : (P : ℕ → Type 0) (b : ℕ) (bs : List ℕ) (x : ℕ) → (b ≡ x → P x) → (has bs x ≡ true → P x) → has (b ∷ bs) x ≡ true → P x
unfolding has
among P b bs x f g = go (eqb b x) refl
  where
    go : (t : Bool) → eqb b x ≡ t → (t || has bs x) ≡ true → P x
    go true e h = f (eqb-true b x e)
    go false e h = g h

module _ {c : ConversionType} {u : Bool} where
  named : (letter : ℕ) (d : ConversionType) (v : Bool) → NamedBy letter c u → letter_from (letter ∷ []) 0 ≡ Ok ((d, v), 1) → (c ≡ d) × (u ≡ v)
  named letter d v e read = let q = (same_read (sym e ∙ read)).0 in (ap (λ (l : ConversionType × Bool). l.0) q, ap (λ (l : ConversionType × Bool). l.1) q)

  pub is-decimal : NamedBy (code "d") c u → (c ≡ Integer R.Decimal) × (u ≡ false)
  unfolding small_of
  is-decimal n = named (code "d") (Integer R.Decimal) false n refl

  pub is_octal : NamedBy (code "o") c u → (c ≡ Integer R.Octal) × (u ≡ false)
  unfolding small_of
  is_octal n = named (code "o") (Integer R.Octal) false n refl

  pub is_hex : NamedBy (code "x") c u → (c ≡ Integer R.Hexadecimal) × (u ≡ false)
  unfolding small_of
  is_hex n = named (code "x") (Integer R.Hexadecimal) false n refl

  pub is-upper_hex : NamedBy (code "X") c u → (c ≡ Integer R.Hexadecimal) × (u ≡ true)
  unfolding small_of capital_of
  is-upper_hex n = named (code "X") (Integer R.Hexadecimal) true n refl

  pub is-float : NamedBy (code "a") c u → (c ≡ HexFloat) × (u ≡ false)
  unfolding small_of
  is-float n = named (code "a") HexFloat false n refl

  pub is-upper-float : NamedBy (code "A") c u → (c ≡ HexFloat) × (u ≡ true)
  unfolding small_of capital_of
  is-upper-float n = named (code "A") HexFloat true n refl
