-- Laws of positional numerals, once over the base: the digits of a number, the number that digits denote, and how many digits a number has.
-- Assumes nothing.
use Rattle.std.proofs.Common.{◌≡◌, ℕ, zero, suc, ◌+◌, ◌-◌, ◌*◌, ◌/◌, ◌%◌, ◌^◌, ◌<◌, ◌≤◌, Bool, List, [], ◌∷◌, ◌++◌, length, replicate, sym, refl, ap}
use Rattle.std.proofs.Common.{false, ◌∙◌, le_trans, le_of_eq, le_refl, lt_of_lt_of_le, add-zero, mod-lt, mod-eq_of_lt, mul_assoc, mul_comm}
use Rattle.std.proofs.Common.{div-lt_iff_lt-mul, add-mul, one-mul, pow-suc, mul-zero, le-div_iff_mul-le, mul-one, mul-suc, le-mul_of_pos_right}
use Rattle.std.proofs.Common.{div-one, add-one, arith, lit≤, length-append, pow_mono, pow-add, le-ltb, lt-ltb}
use native.Mathlib.Decide.{dec_lt}
use native.Mathlib.Nat.{pow-zero, pow-succ', one-le-pow}
use native.Mathlib.Nat.{mod-one, div-div-eq-div-mul, div-lt_self, add-div_right, mul-div-le, lt-mul-div-succ}
use lib.Arith.{mod-mul, digits_div, digits_mod, digits_lt}
use lib.Count.{count_leading_zeros, leading_top}
use Rattle.writing.proofs.FromRight.{from_right}
use Rattle.numerals.specs.Digits.{digits_in, places_within, places, digits, number_from, number_of, letter_of, letters_of, numeral, decimal}

-- Every digit is below the base.
abbrev pub Below : ℕ → List ℕ → Type 0
Below b [] = Unit {0}
Below b (d ∷ ds) = (d < b) × Below b ds

-- No leading zero, but for the one digit of 0.
abbrev pub Leading : List ℕ → Type 0
Leading [] = ⊥
Leading (d ∷ []) = Unit {0}
Leading (d ∷ (e ∷ ds)) = 0 < d

pow_one : (b : ℕ) → b ^ 1 ≡ b
pow_one b = rw (pow-suc b 0, pow-zero, one-mul)

-- Letters stand for digits one by one.
pub length-letters : (u : Bool) (ds : List ℕ) → length (letters_of u ds) ≡ length ds
unfolding letters_of
length-letters u [] = refl
length-letters u (d ∷ ds) = ap suc (length-letters u ds)

pub letters-append : (u : Bool) (xs ys : List ℕ) → letters_of u (xs ++ ys) ≡ letters_of u xs ++ letters_of u ys
unfolding letters_of
letters-append u [] ys = refl
letters-append u (d ∷ xs) ys = ap (λ (l : List ℕ). letter_of u d ∷ l) (letters-append u xs ys)

pub length-digits_in : (b k n : ℕ) → length (digits_in b k n) ≡ k
unfolding digits_in
length-digits_in b zero n = refl
length-digits_in b (suc k) n =
    length-append (digits_in b k (n / b)) (n % b ∷ []) ∙ ap (λ (j : ℕ). j + 1) (length-digits_in b k (n / b)) ∙ add-one k

pub length_letters_in : (u : Bool) (b k n : ℕ) → length (letters_of u (digits_in b k n)) ≡ k
length_letters_in u b k n = length-letters u (digits_in b k n) ∙ length-digits_in b k n

-- From the last letter to the first: what is left of the number gives the next letter.
abbrev pub digit_byte : Bool → ℕ → ℕ → ℕ
digit_byte u b v = letter_of u (v % b)

abbrev pub digit_next : ℕ → ℕ → ℕ
digit_next b v = v / b

pub digits_right : (u : Bool) (b k n : ℕ) → letters_of u (digits_in b k n) ≡ from_right (digit_byte u b) (digit_next b) k n
unfolding letters_of digits_in from_right
digits_right u b zero n = refl
digits_right u b (suc k) n =
    letters-append u (digits_in b k (n / b)) (n % b ∷ []) ∙ ap (λ (l : List ℕ). l ++ (letter_of u (n % b) ∷ [])) (digits_right u b k (n / b))

pub below-append : (b : ℕ) (xs ys : List ℕ) → Below b xs → Below b ys → Below b (xs ++ ys)
below-append b [] ys p q = q
below-append b (d ∷ xs) ys p q = (p.0, below-append b xs ys p.1 q)

pub below-digits_in : (b k n : ℕ) → 0 < b → Below b (digits_in b k n)
unfolding digits_in
below-digits_in b zero n h = tt
below-digits_in b (suc k) n h = below-append b (digits_in b k (n / b)) (n % b ∷ []) (below-digits_in b k (n / b) h) (mod-lt n h, tt)

pub below_zeros : (b k : ℕ) → 0 < b → Below b (replicate k 0)
below_zeros b zero h = tt
below_zeros b (suc k) h = (h, below_zeros b k h)

-- The number that digits denote: of a list after a list, of zeros, and with v before them.
pub number_append : (b v : ℕ) (xs ys : List ℕ) → number_from b v (xs ++ ys) ≡ number_from b (number_from b v xs) ys
unfolding number_from
number_append b v [] ys = refl
number_append b v (d ∷ xs) ys = number_append b (v * b + d) xs ys

pub number_zeros : (b v k : ℕ) → number_from b v (replicate k 0) ≡ v * b ^ k
unfolding number_from
number_zeros b v zero = sym (rw (pow-zero, mul-one))
number_zeros b v (suc k) = number_zeros b (v * b + 0) k ∙ rw (add-zero, mul_assoc, pow-succ')

pub number_split : (b v : ℕ) (ds : List ℕ) → number_from b v ds ≡ v * b ^ length ds + number_of b ds
unfolding number_from number_of
number_split b v [] = sym (rw (pow-zero, mul-one, add-zero))
number_split b v (d ∷ ds) =
    let p = b ^ length ds in
    let q : (v * b + d) * p ≡ v * (b * p) + d * p = add-mul (v * b) d p ∙ ap (λ (z : ℕ). z + d * p) (mul_assoc v b p) in
    let s : v * b ^ suc (length ds) ≡ v * (b * p) = ap (λ (z : ℕ). v * z) (pow-succ' b (length ds)) in
    let f : number_from b (0 * b + d) ds ≡ d * p + number_from b 0 ds = ap (λ (z : ℕ). number_from b z ds) (omega arith) ∙ number_split b d ds in
    let g : (v * b + d) * p + number_from b 0 ds ≡ v * b ^ suc (length ds) + number_from b (0 * b + d) ds = omega arith in
    number_split b (v * b + d) ds ∙ g

pub number-below : (b : ℕ) (ds : List ℕ) → Below b ds → number_of b ds < b ^ length ds
unfolding number_from number_of
number-below b [] h = rw pow-zero (omega arith)
number-below b (d ∷ ds) h =
    let f : 0 * b + d < b = omega (arith, h.0) in
    rw (pow-succ', number_split b (0 * b + d) ds) (digits_lt f (number-below b ds h.1))

-- The digits of a number denote it, and digits are those of their number.
pub number-digits_in : (b v k n : ℕ) → 0 < b → number_from b v (digits_in b k n) ≡ v * b ^ k + n % b ^ k
unfolding digits_in number_from
number-digits_in b v zero n h = sym (rw (pow-zero, mul-one, mod-one, add-zero))
number-digits_in b v (suc k) n h =
    let r = n / b % b ^ k in
    let e : n % (b ^ k * b) ≡ r * b + n % b = mod-mul n (one-le-pow k b h) h in
    let f : (v * b ^ k + r) * b ≡ v * (b ^ k * b) + r * b = add-mul (v * b ^ k) r b ∙ ap (λ (z : ℕ). z + r * b) (mul_assoc v (b ^ k) b) in
    number_append b v (digits_in b k (n / b)) (n % b ∷ [])
    ∙ ap (λ (z : ℕ). z * b + n % b) (number-digits_in b v k (n / b) h)
    ∙ rw pow-suc (omega arith)

-- the highest digit first
digits_in-first : (b k n : ℕ) → digits_in b (suc k) n ≡ n / b ^ k % b ∷ digits_in b k n
unfolding digits_in
digits_in-first b zero n = rw (pow-zero, div-one)
digits_in-first b (suc k) n =
    ap (λ (l : List ℕ). l ++ (n % b ∷ [])) (digits_in-first b k (n / b))
    ∙ ap (λ (z : ℕ). z % b ∷ digits_in b (suc k) n) (div-div-eq-div-mul n b (b ^ k) ∙ ap (λ (z : ℕ). n / z) (sym (pow-succ' b k)))

pub digits_in-number : (b v : ℕ) (ds : List ℕ) → Below b ds → digits_in b (length ds) (number_from b v ds) ≡ ds
unfolding digits_in number_from
digits_in-number b v [] h = refl
digits_in-number b v (d ∷ ds) h =
    let w = v * b + d in
    let q : number_from b w ds / b ^ length ds ≡ w =
    ap (λ (z : ℕ). z / b ^ length ds) (number_split b w ds) ∙ digits_div w (number-below b ds h.1) in
    let r : number_from b w ds / b ^ length ds % b ≡ d = ap (λ (z : ℕ). z % b) q ∙ digits_mod v h.0 in
    digits_in-first b (length ds) (number_from b w ds) ∙ cc (digits_in-number b w ds h.1)

-- How many digits a number has. More divisions than n change nothing.
within-small : (f b n : ℕ) → n < b → places_within f b n ≡ 1
unfolding places_within
within-small zero b n h = refl
within-small (suc f) b n h = simp (lt-ltb n b h)

within_more : (f b n : ℕ) → b ≤ n → places_within (suc f) b n ≡ suc (places_within f b (n / b))
unfolding places_within
within_more f b n h = simp (le-ltb n b h)

quotient_le : (b n f : ℕ) → 2 ≤ b → b ≤ n → n ≤ suc f → n / b ≤ f
quotient_le b n f g h e = omega (arith, div-lt_self {n = n} {k = b} (omega arith) (omega arith))

within_enough : (f g b n : ℕ) → 2 ≤ b → n ≤ f → n ≤ g → places_within f b n ≡ places_within g b n
within_enough zero g b n h p q = within-small zero b n (omega arith) ∙ sym (within-small g b n (omega arith))
within_enough (suc f) zero b n h p q = within-small (suc f) b n (omega arith) ∙ sym (within-small zero b n (omega arith))
within_enough (suc f) (suc g) b n h p q =
    elim (dec_lt n b) [
      | yes s ↦ within-small (suc f) b n s ∙ sym (within-small (suc g) b n s)
      | no s ↦ larger (omega arith) (within_enough f g b (n / b) h)
    ]
  where
    larger : b ≤ n → (n / b ≤ f → n / b ≤ g → places_within f b (n / b) ≡ places_within g b (n / b)) → places_within (suc f) b n ≡ places_within (suc g) b n
    larger m ih =
        within_more f b n m ∙ ap suc (ih (quotient_le b n f h m p) (quotient_le b n g h m q)) ∙ sym (within_more g b n m)

pub places-small : (b n : ℕ) → n < b → places b n ≡ 1
unfolding places
places-small b n h = within-small n b n h

pub places-more : (b n : ℕ) → 2 ≤ b → b ≤ n → places b n ≡ suc (places b (n / b))
unfolding places
places-more b n h m =
    let f = n - 1 in
    let e : n ≡ suc f = omega arith in
    let q : n / b ≤ f = quotient_le b n f h m (omega arith) in
    ap (λ (z : ℕ). places_within z b n) e ∙ within_more f b n m ∙ ap suc (within_enough f (n / b) b (n / b) h q (le_refl (n / b)))

-- four places at once
pub places_four : (n : ℕ) → 10000 ≤ n → places 10 n ≡ 4 + places 10 (n / 10000)
places_four n h =
    let two : n / 10 / 10 ≡ n / 100 = div-div-eq-div-mul n 10 10 in
    let three : n / 100 / 10 ≡ n / 1000 = div-div-eq-div-mul n 100 10 in
    let four : n / 1000 / 10 ≡ n / 10000 = div-div-eq-div-mul n 1000 10 in
    omega (
      arith,
      places-more 10 n (omega arith) (omega arith),
      places-more 10 (n / 10) (omega arith) (omega arith),
      ap (places 10) two,
      places-more 10 (n / 100) (omega arith) (omega arith),
      ap (places 10) three,
      places-more 10 (n / 1000) (omega arith) (omega arith),
      ap (places 10) four,
    )

pub places_pos : (b n : ℕ) → 2 ≤ b → 1 ≤ places b n
places_pos b n h =
    elim (dec_lt n b) [ yes s ↦ omega (arith, places-small b n s) | no s ↦ omega (arith, places-more b n h (omega arith)) ]

-- A number between two powers has one digit more than the lower power's exponent.
pub places_is : (b k n : ℕ) → 2 ≤ b → b ^ k ≤ n → n < b ^ suc k → places b n ≡ suc k
places_is b zero n h lo hi = places-small b n (rw pow_one at hi)
places_is b (suc k) n h lo hi =
    let z : 0 < b = omega arith in
    let lo' : b ^ k * b ≤ n = rw pow-suc at lo in
    let hi' : n < b ^ suc k * b = rw (pow-suc b (suc k)) at hi in
    let m : b ≤ n = le_trans (le_trans (le-mul_of_pos_right b (one-le-pow k b z)) (le_of_eq (mul_comm b (b ^ k)))) lo' in
    places-more b n h m ∙ ap suc (places_is b k (n / b) h ((le-div_iff_mul-le z).1 lo') ((div-lt_iff_lt-mul z).1 hi'))

-- A number fits in its places, and it has no more than it needs.
small-fits : (b n : ℕ) → n < b → n < b ^ places b n
small-fits b n s = rw (places-small b n s, pow_one) s

fits-within : (f b n : ℕ) → 2 ≤ b → n ≤ f → n < b ^ places b n
fits-within zero b n h e = small-fits b n (omega arith)
fits-within (suc f) b n h e = elim (dec_lt n b) [ yes s ↦ small-fits b n s | no s ↦ larger (omega arith) (fits-within f b (n / b) h) ]
  where
    larger : b ≤ n → (n / b ≤ f → n / b < b ^ places b (n / b)) → n < b ^ places b n
    larger m ih =
        let z : 0 < b = omega arith in
        rw (places-more b n h m, pow-suc) ((div-lt_iff_lt-mul z).0 (ih (quotient_le b n f h m e)))

pub places-fits : (b n : ℕ) → 2 ≤ b → n < b ^ places b n
places-fits b n h = fits-within n b n h (le_refl n)

pub places_le : (b k n : ℕ) → 2 ≤ b → n < b ^ suc k → places b n ≤ suc k
places_le b zero n h hi = le_of_eq (places-small b n (rw pow_one at hi))
places_le b (suc k) n h hi =
    let z : 0 < b = omega arith in
    let hi' : n / b < b ^ suc k = (div-lt_iff_lt-mul z).1 (rw (pow-suc b (suc k)) at hi) in
    elim (dec_lt n b) [
      | yes s ↦ omega (arith, places-small b n s)
      | no s ↦ omega (arith, places-more b n h (omega arith), places_le b k (n / b) h hi')
    ]

-- a number of 64 bits has at most twenty decimal digits
pub twenty_places : (n : ℕ) → n < 2 ^ 64 → places 10 n ≤ 20
twenty_places n h = places_le 10 19 n (lit≤ tt) (omega arith)

pub length-numeral : (u : Bool) (b n : ℕ) → length (numeral u b n) ≡ places b n
unfolding numeral digits
length-numeral u b n = length_letters_in u b (places b n) n

-- how long a numeral is, and a decimal one of 64 bits
pub ruleset decimals = length-numeral

pub at_most_twenty : (n : ℕ) → n < 2 ^ 64 → length (decimal n) ≤ 20
at_most_twenty n h = omega (arith, length-numeral false 10 n, twenty_places n h)

-- as many digits as a number has are its numeral
pub numeral_in : (u : Bool) (b n k : ℕ) → k ≡ places b n → letters_of u (digits_in b k n) ≡ numeral u b n
unfolding numeral digits
numeral_in u b n k e = rw e refl

pub number_digits : (b n : ℕ) → 2 ≤ b → number_of b (digits b n) ≡ n
unfolding digits number_of
number_digits b n h =
    number-digits_in b 0 (places b n) n (omega arith)
    ∙ ap (λ (z : ℕ). 0 * b ^ places b n + z) (mod-eq_of_lt (places-fits b n h))
    ∙ omega arith

-- Digits without a leading zero are as many as their number has.
places-number : (b : ℕ) (ds : List ℕ) → 2 ≤ b → Below b ds → Leading ds → places b (number_of b ds) ≡ length ds
unfolding number_from number_of
places-number b [] h p q = absurd q
places-number b (d ∷ []) h p q = places-small b (0 * b + d) (omega (arith, p.0))
places-number b (d ∷ (e ∷ ds)) h p q =
    let n = length (e ∷ ds) in
    let s : number_from b (0 * b + d) (e ∷ ds) ≡ (0 * b + d) * b ^ n + number_from b 0 (e ∷ ds) = number_split b (0 * b + d) (e ∷ ds) in
    let t : (0 * b + d) * b ^ n ≡ b ^ n * d = ap (λ (z : ℕ). z * b ^ n) (omega arith) ∙ mul_comm d (b ^ n) in
    let l : b ^ n ≤ b ^ n * d = le-mul_of_pos_right (b ^ n) q in
    let lo : b ^ n ≤ number_from b (0 * b + d) (e ∷ ds) = omega arith in
    places_is b n (number_from b (0 * b + d) (e ∷ ds)) h lo (number-below b (d ∷ (e ∷ ds)) p)

pub digits_number : (b : ℕ) (ds : List ℕ) → 2 ≤ b → Below b ds → Leading ds → digits b (number_of b ds) ≡ ds
unfolding digits number_of
digits_number b ds h p q =
    ap (λ (k : ℕ). digits_in b k (number_from b 0 ds)) (places-number b ds h p q) ∙ digits_in-number b 0 ds p

-- The number of digits in base 2 ^ s, from the highest set bit.
pow_mul : (b s k : ℕ) → (b ^ s) ^ k ≡ b ^ (s * k)
pow_mul b s zero = rw (pow-zero (b ^ s), mul-zero, pow-zero)
pow_mul b s (suc k) = pow-suc (b ^ s) k ∙ ap (λ (z : ℕ). z * b ^ s) (pow_mul b s k) ∙ sym (ap (λ (z : ℕ). b ^ z) (mul-suc s k) ∙ pow-add b (s * k) s)

places_power : (s j x : ℕ) → 1 ≤ s → 2 ^ j ≤ x → x < 2 ^ suc j → places (2 ^ s) x ≡ suc (j / s)
places_power s j x h lo hi =
    let k = j / s in
    let lo' : (2 ^ s) ^ k ≤ x = le_trans (le_of_eq (pow_mul 2 s k)) (le_trans (pow_mono (mul-div-le j s)) lo) in
    let m : suc j ≤ s * suc k = rw (← add-one k) (lt-mul-div-succ j h) in
    let hi' : x < (2 ^ s) ^ suc k = rw pow_mul (lt_of_lt_of_le hi (pow_mono m)) in
    places_is (2 ^ s) k x (pow_mono h) lo' hi'

pub power_length : (s x : ℕ) → 1 ≤ s → 0 < x → x < 2 ^ 64 → (64 - count_leading_zeros 64 x + s - 1) / s ≡ places (2 ^ s) x
power_length s x h n f =
    let t = leading_top 64 x n f in
    let j = t.0 in
    let e : 64 - count_leading_zeros 64 x + s - 1 ≡ j + s = omega (arith, t.1) in
    ap (λ (z : ℕ). z / s) e ∙ add-div_right j h ∙ add-one (j / s) ∙ sym (places_power s j x h t.2 t.3)
