-- Positional numerals: the digits of a whole number in a base, most significant first, and the number that digits denote.
use Rattle.std.specs.Prelude.{ℕ, zero, suc, ◌+◌, ◌-◌, ◌*◌, ◌/◌, ◌%◌, Bool, false, List, [], ◌∷◌, ◌++◌, map, nat_lt}
use Prim.Native.Char.{code}
use Rattle.writing.specs.Choose.{choose}

-- The k lowest digits of n in base b, leading zeros included: the number n % b ^ k at k places.
unfoldable pub digits_in : ℕ → ℕ → ℕ → List ℕ
digits_in b zero n = []
digits_in b (suc k) n = digits_in b k (n / b) ++ (n % b ∷ [])

-- How many digits n has in base b. 01: "one digit for 0". A number below b has one, and any other has one more than its quotient by b;
-- n itself bounds the number of divisions.
unfoldable pub places_within : ℕ → ℕ → ℕ → ℕ
places_within zero b n = 1
places_within (suc f) b n = choose (nat_lt n b) (λ _. 1) (λ _. suc (places_within f b (n / b)))

unfoldable pub places : ℕ → ℕ → ℕ
places b n = places_within n b n

-- The digits of n in base b, without leading zeros.
unfoldable pub digits : ℕ → ℕ → List ℕ
digits b n = digits_in b (places b n) n

-- The number that digits in base b denote, v standing before them.
unfoldable pub number_from : ℕ → ℕ → List ℕ → ℕ
number_from b v [] = v
number_from b v (d ∷ ds) = number_from b (v * b + d) ds

unfoldable pub number_of : ℕ → List ℕ → ℕ
number_of b ds = number_from b 0 ds

-- The letter of a digit: 0 to 9, then a to f, or A to F for a capital conversion.
unfoldable pub letter_of : Bool → ℕ → ℕ
letter_of upper d = choose (nat_lt d 10) (λ _. code "0" + d) (λ _. choose upper (λ _. code "A" + (d - 10)) (λ _. code "a" + (d - 10)))

-- Digits as text.
unfoldable pub letters_of : Bool → List ℕ → List ℕ
letters_of upper ds = map (letter_of upper) ds

-- A whole number as text in base b.
unfoldable pub numeral : Bool → ℕ → ℕ → List ℕ
numeral upper b n = letters_of upper (digits b n)

abbrev pub decimal : ℕ → List ℕ
decimal n = numeral false 10 n
