-- Exactness and nearness. 01: "judged over whole numbers: the value, the number read and any rival, of either sign, all multiplied by one
-- power of two that clears their negative exponents."
use Rattle.std.specs.Prelude.{ℕ, suc, ◌+◌, ◌-◌, ◌*◌, ◌%◌, ◌^◌, ◌≤◌, ◌<◌, max, ◌≡◌, Bool, true, false, ◌||◌, leb, eqb, ℤ, pos, negsuc, None, Option, Some}
use Rattle.binary64.specs.Fields.{negative, units}
use Rattle.reading.specs.Reading.{Scaled}

-- K + e
abbrev pub raised : ℕ → ℤ → ℕ
raised K (pos e) = K + e
raised K (negsuc e) = K - suc e

-- That 2 to the K clears the negative exponents of a number with the power e and f hexadecimal digits after the point: 0 ≤ K + e - 4f.
abbrev pub Clears : ℕ → ℕ → ℤ → Type 0
Clears K f (pos e) = 4 * f ≤ K + e
Clears K f (negsuc e) = 4 * f + suc e ≤ K

-- m times 2 to the (e - 4f), times 2 to the K.
unfoldable pub whole_at : ℕ → ℕ → ℕ → ℤ → ℕ
whole_at K m f e = m * 2 ^ (raised K e - 4 * f)

-- The magnitude of the value with the bits b, times 2 to the K, for a K of at least 1074.
unfoldable pub value_at : ℕ → ℕ → ℕ
value_at K b = units b * 2 ^ (K - 1074)

-- How far two whole numbers lie apart, each with a sign (true: negative).
abbrev pub apart : Bool → ℕ → Bool → ℕ → ℕ
apart false x false y = x - y + (y - x)
apart true x true y = x - y + (y - x)
apart false x true y = x + y
apart true x false y = x + y

-- "%a is exact": sign and number read are those of the bits b.
pub record Exactly (b : ℕ) (r : Scaled) : Type 0 where
  pub sign : r.negative ≡ negative b
  pub number : (K : ℕ) → 1074 ≤ K → Clears K r.f r.e → whole_at K r.m r.f r.e ≡ value_at K b

-- "the number read .. has its sign, a leading 1, that many hexadecimal fraction digits and a power of two; every other number so made, of
-- either sign, lies at least as far from the value, and where one lies just as far, the last fraction digit read is even."
pub record Nearest (b p : ℕ) (r : Scaled) : Type 0 where
  pub sign : r.negative ≡ negative b
  pub places : r.f ≡ p
  pub leading : 16 ^ p ≤ r.m
  pub below : r.m < 2 * 16 ^ p
  pub near : (t : Bool) (m : ℕ) (e : ℤ) → 16 ^ p ≤ m → m < 2 * 16 ^ p → (K : ℕ) → 1074 ≤ K → Clears K p r.e → Clears K p e
      → apart (negative b) (value_at K b) r.negative (whole_at K r.m p r.e) ≤ apart (negative b) (value_at K b) t (whole_at K m p e)
  pub even : (t : Bool) (m : ℕ) (e : ℤ) → 16 ^ p ≤ m → m < 2 * 16 ^ p → (K : ℕ) → 1074 ≤ K → Clears K p r.e → Clears K p e
      → apart (negative b) (value_at K b) r.negative (whole_at K r.m p r.e) ≡ apart (negative b) (value_at K b) t (whole_at K m p e)
      → ((t ≡ r.negative) × (whole_at K m p e ≡ whole_at K r.m p r.e) → ⊥)
      → r.m % 2 ≡ 0

-- One claim or the other, by a test.
abbrev pub claim : Bool → Type 0 → Type 0 → Type 0
claim true A B = A
claim false A B = B

-- What demand 3 says of %a: "%a is exact for zero, its sign included, and for every finite value without precision or with 13 or more. With
-- precision 1 to 12 (0 counts as 1)" it is the nearest.
abbrev pub Denotes : ℕ → Option ℕ → Scaled → Type 0
Denotes b None r = Exactly b r
Denotes b (Some p) r = claim (eqb (units b) 0 || leb 13 p) (Exactly b r) (Nearest b (max p 1) r)
