-- The piece of %a, read back: through mark, prefix, zeros, and spaces in every place where they may stand. Assumes nothing.
use Rattle.std.specs.Prelude.{Some}
use mathlib.Core.Path.{◌≡◌, refl, sym, ap, ◌∙◌}
use mathlib.Core.Bool.{Bool, true, false}
use mathlib.Core.List.{List, [], ◌∷◌, ◌++◌, append_assoc, append-nil}
use Prim.Native.Nat.{ℕ, suc, ◌+◌, ◌-◌, ◌*◌, ◌^◌, ◌≤◌, ◌<◌}
use Prim.Native.Char.{code}
use native.Mathlib.Nat.{mod-eq_of_lt, zero-mul, zero-add}
use native.Mathlib.Decide.{dec_lt}
use native.Mathlib.Omega.{arith}
use lib.Dec.{ltb, eqb, lit<, lit≤}
use lib.IntN.{ℤ, pos, neg_ℤ, sub_ℕ}
use lib.ListN.{length, replicate, length-append, length-replicate}
use borrow.Author.Tests.{lt-ltb, le-ltb}
use Rattle.writing.specs.Choose.{choose}
use Rattle.numerals.specs.Digits.{digits, digits_in, letter_of, letters_of, number_from, number_of, decimal}
use Rattle.numerals.proofs.Digits.{Below, below-append, below-digits_in, below_zeros, letters-append}
use Rattle.numerals.proofs.Digits.{length-letters, length-digits_in, number_append, number_zeros, number-digits_in}
use Rattle.frames.specs.Frame.{closing, marks}
use Rattle.frames.specs.Signs.{is_minus}
use Rattle.frames.specs.declared.Mark.{Mark}
use Rattle.frames.specs.declared.Mark.TheVariants.{NoMark, Plus, Space, Minus, Brackets}
use Rattle.frames.specs.declared.Prefix.{Prefix}
use Rattle.frames.specs.declared.Prefix.TheVariants.{HexLower, HexUpper}
use Rattle.binary64.specs.declared.HexFloat.{HexFloat}
use Rattle.hexfloats.specs.Texts.{leading_digit, exponent_text, hex_float_text}
use Rattle.reading.specs.Kept.{kept}
use Rattle.reading.specs.Reading.{with_minus, after_prefix, cut_at, Scaled, read_magnitude, read_float}
use Rattle.reading.proofs.Kept.{kept_append, kept-letters, zero_letters}
use Rattle.reading.proofs.Digits.{letter-is_not, digits-read, whole_read}
use Rattle.reading.proofs.Forms.{whole_of, places_of}
use Rattle.reading.proofs.Integers.{spaced, kept_spaced, digits_of, unmarked, after_minus, kept-numeral}

-- The number that the parts of a text make.
abbrev pub scaled_of : Bool → HexFloat → Scaled
scaled_of s h =
    record {
      negative = s;
      m = whole_of h;
      f = places_of h;
      e = sub_ℕ h.exponent h.bias;
    }

-- the prefix of %a and of %A
abbrev pub hex_prefix : Bool → Prefix
hex_prefix false = HexLower
hex_prefix true = HexUpper

-- digits are cut off at a byte that is no digit
cut_letters : (b : ℕ) (ds rest : List ℕ) → ((x : ℕ) → code "0" ≤ x → x ≤ code "f" → x ≡ b → ⊥) → eqb b b ≡ true → Below 16 ds
    → cut_at b (letters_of false ds ++ (b ∷ rest)) ≡ Some (record { front = letters_of false ds; back = rest })
unfolding cut_at letters_of
cut_letters b [] rest out same l = simp same
cut_letters b (d ∷ ds) rest out same l = simp (letter-is_not b d l.0 out, cut_letters b ds rest out same l.1)

-- W before the point, F behind it, X behind `p`
read_parts : (s : Bool) (W F X : List ℕ) (e : ℤ) → Below 16 W → Below 16 F → 0 < length W → 0 < length F → with_minus X ≡ Some e
    → read_magnitude s (code "0" ∷ code "x" ∷ (letters_of false W ++ (code "." ∷ (letters_of false F ++ (code "p" ∷ X)))))
    ≡ Some (record { negative = s; m = number_from 16 (number_of 16 W) F; f = length F; e = e })
unfolding read_magnitude after_prefix
read_parts s W F X e w f nw nf x =
    simp (
      cut_letters (code ".") W (letters_of false F ++ (code "p" ∷ X)) (λ x p q e. omega arith) refl w,
      cut_letters (code "p") F X (λ x p q e. omega arith) refl f,
      whole_read 16 W (lit≤ tt) w nw,
      whole_read 16 F (lit≤ tt) f nf,
      digits-read 16 (number_of 16 W) F (lit≤ tt) f,
      x,
      length-letters,
    )

-- the exponent: its letter counts as `p`, and behind it stands the number
abbrev exponent_digits : Bool → ℕ → ℕ → List ℕ
exponent_digits true e bias = code "-" ∷ letters_of false (digits 10 (bias - e))
exponent_digits false e bias = letters_of false (digits 10 (e - bias))

number : (t : Bool) (e bias : ℕ) → kept (choose t (λ _. code "-" ∷ decimal (bias - e)) (λ _. decimal (e - bias))) ≡ exponent_digits t e bias
unfolding kept
number true e bias = ap (λ (l : List ℕ). code "-" ∷ l) (kept-numeral false 10 (bias - e) (lit≤ tt) (lit≤ tt))
number false e bias = kept-numeral false 10 (e - bias) (lit≤ tt) (lit≤ tt)

kept_exponent : (u : Bool) (e bias : ℕ) → kept (exponent_text u e bias) ≡ code "p" ∷ exponent_digits (ltb e bias) e bias
unfolding kept exponent_text
kept_exponent false e bias = ap (λ (l : List ℕ). code "p" ∷ l) (number (ltb e bias) e bias)
kept_exponent true e bias = ap (λ (l : List ℕ). code "p" ∷ l) (number (ltb e bias) e bias)

exponent_read : (e bias : ℕ) → with_minus (exponent_digits (ltb e bias) e bias) ≡ Some (sub_ℕ e bias)
exponent_read e bias = elim (dec_lt e bias) [ yes p ↦ below p | no n ↦ above (omega arith) ]
  where
    below : e < bias → with_minus (exponent_digits (ltb e bias) e bias) ≡ Some (sub_ℕ e bias)
    below p =
        let k : bias - e ≡ suc (bias - suc e) = omega arith in
        simp (lt-ltb e bias p) (after_minus (bias - e) (digits 10 (bias - e)) (digits_of 10 (bias - e) (lit≤ tt)) ∙ ap (λ (n : ℕ). Some (neg_ℤ (pos n))) k)

    above : bias ≤ e → with_minus (exponent_digits (ltb e bias) e bias) ≡ Some (sub_ℕ e bias)
    above p = simp (le-ltb e bias p) (unmarked (e - bias) (digits 10 (e - bias)) (digits_of 10 (e - bias) (lit≤ tt)))

abbrev exponent_of : HexFloat → List ℕ
exponent_of h = exponent_digits (ltb h.exponent h.bias) h.exponent h.bias

-- the digits behind the point
abbrev fraction_digits : HexFloat → List ℕ
fraction_digits h = digits_in 16 h.digits h.fraction ++ replicate h.zeros 0

below_fraction : (h : HexFloat) → Below 16 (fraction_digits h)
below_fraction h =
    below-append 16 (digits_in 16 h.digits h.fraction) (replicate h.zeros 0)
    (below-digits_in 16 h.digits h.fraction (lit< tt))
    (below_zeros 16 h.zeros (lit< tt))

-- the text of a value: what counts of it
leading-kept : (t : Bool) (rest : List ℕ)
    → kept ((code "0" + leading_digit t) ∷ code "." ∷ rest) ≡ letters_of false (leading_digit t ∷ []) ++ (code "." ∷ kept rest)
unfolding kept letters_of letter_of
leading-kept false rest = refl
leading-kept true rest = refl

fraction_kept : (u : Bool) (h : HexFloat) (rest : List ℕ)
    → kept (letters_of u (digits_in 16 h.digits h.fraction) ++ (replicate h.zeros (code "0") ++ rest)) ≡ letters_of false (fraction_digits h) ++ kept rest
fraction_kept u h rest =
    let ds = digits_in 16 h.digits h.fraction in
    let zs : List ℕ = replicate h.zeros 0 in
    kept_append (letters_of u ds) (replicate h.zeros (code "0") ++ rest)
    ∙ ap (λ (l : List ℕ). l ++ kept (replicate h.zeros (code "0") ++ rest)) (kept-letters u ds (below-digits_in 16 h.digits h.fraction (lit< tt)))
    ∙ ap (λ (l : List ℕ). letters_of false ds ++ l)
    (kept_append (replicate h.zeros (code "0")) rest
    ∙ ap (λ (l : List ℕ). kept l ++ kept rest) (zero_letters false h.zeros)
    ∙ ap (λ (l : List ℕ). l ++ kept rest) (kept-letters false zs (below_zeros 16 h.zeros (lit< tt))))
    ∙ sym (append_assoc (letters_of false ds) (letters_of false zs) (kept rest))
    ∙ ap (λ (l : List ℕ). l ++ kept rest) (sym (letters-append false ds zs))

-- X is the exponent's number
abbrev value_text : HexFloat → List ℕ → List ℕ
value_text h X = letters_of false (leading_digit h.leading ∷ []) ++ (code "." ∷ (letters_of false (fraction_digits h) ++ (code "p" ∷ X)))

kept-value : (u : Bool) (h : HexFloat) → kept (hex_float_text u h) ≡ value_text h (exponent_of h)
unfolding hex_float_text
kept-value u h =
    leading-kept h.leading _
    ∙ ap (λ (l : List ℕ). letters_of false (leading_digit h.leading ∷ []) ++ (code "." ∷ l))
    (fraction_kept u h (exponent_text u h.exponent h.bias)
    ∙ ap (λ (l : List ℕ). letters_of false (fraction_digits h) ++ l) (kept_exponent u h.exponent h.bias))

lead_below : (t : Bool) → leading_digit t < 16
lead_below false = lit< tt
lead_below true = lit< tt

-- The whole number of all digits: leading zeros, the digit before the point, the digits and zeros behind it.
number_is : (z : ℕ) (h : HexFloat) → h.fraction < 16 ^ h.digits
    → number_from 16 (number_of 16 (replicate z 0 ++ (leading_digit h.leading ∷ []))) (fraction_digits h) ≡ whole_of h
unfolding number_of number_from
number_is z h k =
    let d = leading_digit h.leading in
    let w : number_from 16 0 (replicate z 0 ++ (d ∷ [])) ≡ d =
    number_append 16 0 (replicate z 0) (d ∷ []) ∙ ap (λ (v : ℕ). v * 16 + d) (number_zeros 16 0 z ∙ zero-mul (16 ^ z)) ∙ zero-add d in
    ap (λ (v : ℕ). number_from 16 v (fraction_digits h)) w
    ∙ number_append 16 d (digits_in 16 h.digits h.fraction) (replicate h.zeros 0)
    ∙ number_zeros 16 _ h.zeros
    ∙ ap (λ (v : ℕ). v * 16 ^ h.zeros)
    (number-digits_in 16 d h.digits h.fraction (lit< tt) ∙ ap (λ (r : ℕ). d * 16 ^ h.digits + r) (mod-eq_of_lt k))

-- What is read of the value's text behind a prefix and z zeros.
magnitude_back : (s : Bool) (z : ℕ) (h : HexFloat) → 1 ≤ h.digits → h.fraction < 16 ^ h.digits
    → read_magnitude s (code "0" ∷ code "x" ∷ (letters_of false (replicate z 0) ++ value_text h (exponent_of h))) ≡ Some (scaled_of s h)
magnitude_back s z h one k =
    let d : List ℕ = leading_digit h.leading ∷ [] in
    let W = replicate z 0 ++ d in
    let F = fraction_digits h in
    let X = exponent_of h in
    let point : List ℕ = code "." ∷ (letters_of false F ++ (code "p" ∷ X)) in
    let w : Below 16 W = below-append 16 (replicate z 0) d (below_zeros 16 z (lit< tt)) (lead_below h.leading, tt) in
    let nw : 0 < length W = rw length-append (omega arith) in
    let lf : length F ≡ places_of h =
    length-append (digits_in 16 h.digits h.fraction) (replicate h.zeros 0) ∙ rw (length-digits_in, length-replicate) in
    ap (λ (l : List ℕ). read_magnitude s (code "0" ∷ code "x" ∷ l))
    (sym (append_assoc (letters_of false (replicate z 0)) (letters_of false d) point)
    ∙ ap (λ (l : List ℕ). l ++ point) (sym (letters-append false (replicate z 0) d)))
    ∙ read_parts s W F X (sub_ℕ h.exponent h.bias) w (below_fraction h) nw (omega (arith, lf)) (exponent_read h.exponent h.bias)
    ∙ simp (number_is z h k, lf)

-- The piece of %a or %A of a finite value, whatever its mark, zeros and spaces.
pub float_back : (a : ℕ) (m : Mark) (v : Bool) (z : ℕ) (u : Bool) (h : HexFloat) (i : ℕ) → closing m ≡ [] → 1 ≤ h.digits → h.fraction < 16 ^ h.digits
    → read_float (kept (spaced a m (hex_prefix v) z (hex_float_text u h) i)) ≡ Some (scaled_of (is_minus m) h)
unfolding kept read_float
float_back a m v z u h i c one k =
    let text = value_text h (exponent_of h) in
    let all : kept (spaced a m (hex_prefix v) z (hex_float_text u h) i) ≡ kept (marks m (hex_prefix v)) ++ (letters_of false (replicate z 0) ++ text) =
    kept_spaced a m (hex_prefix v) z (hex_float_text u h) text i (kept-value u h) ∙ simp (c, append-nil) in
    ap read_float all ∙ by_mark m v c
  where
    by_mark : (m : Mark) (v : Bool) → closing m ≡ []
        → read_float (kept (marks m (hex_prefix v)) ++ (letters_of false (replicate z 0) ++ value_text h (exponent_of h))) ≡ Some (scaled_of (is_minus m) h)
    by_mark NoMark false c = magnitude_back false z h one k
    by_mark NoMark true c = magnitude_back false z h one k
    by_mark Plus false c = magnitude_back false z h one k
    by_mark Plus true c = magnitude_back false z h one k
    by_mark Space false c = magnitude_back false z h one k
    by_mark Space true c = magnitude_back false z h one k
    by_mark Minus false c = magnitude_back true z h one k
    by_mark Minus true c = magnitude_back true z h one k
    by_mark Brackets v c = absurd (omega (arith, ap length c))
