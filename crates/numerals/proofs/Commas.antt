-- Laws of commas: how many there are, and the text with commas from its last byte to its first. Assumes nothing.
use Rattle.std.proofs.Common.{◌≡◌, ℕ, zero, suc, ◌+◌, ◌-◌, ◌/◌, ◌%◌, false, eqb, List, [], ◌∷◌, ◌++◌, length, sym, refl, ap, ◌∙◌, subst, append_assoc}
use Rattle.std.proofs.Common.{append-nil, add-zero, zero-add, add-one, arith, length-append, lt-ltb, eq-eqb, ne_eqb}
use native.Mathlib.Decide.{ℕ_discrete}
use Rattle.writing.specs.Choose.{choose}
use Rattle.writing.proofs.FromRight.{from_right}
use Rattle.numerals.specs.Digits.{digits_in, places, digits, letter_of, letters_of, numeral, decimal}
use Rattle.numerals.specs.Grouping.{comma_after, grouped}
use Rattle.writing.proofs.Backwards.{right_more}
use Rattle.numerals.proofs.Digits.{places_pos, twenty_places, letters-append, length-numeral}

-- a comma, or none
comma : (r : ℕ) → r % 3 ≡ 2 → comma_after (suc r) ≡ 44 ∷ []
comma r e =
    let z : suc r % 3 ≡ 0 = omega arith in
    simp (lt-ltb 0 (suc r) (omega arith), eq-eqb (suc r % 3) 0 z)

no_comma : (r : ℕ) → (r % 3 ≡ 2 → ⊥) → comma_after (suc r) ≡ []
no_comma r n =
    simp (lt-ltb 0 (suc r) (omega arith), ne_eqb (suc r % 3) 0 (λ e. n (omega arith)))

comma_count : (r : ℕ) → length (comma_after r) + (r - 1) / 3 ≡ r / 3
comma_count zero = refl
comma_count (suc r) = elim (ℕ_discrete (r % 3) 2) [ yes e ↦ rw (comma r e) (omega arith) | no n ↦ rw (no_comma r n) (omega arith) ]

pub length-grouped : (ds : List ℕ) → length (grouped ds) ≡ length ds + (length ds - 1) / 3
unfolding grouped
length-grouped [] = refl
length-grouped (d ∷ ds) =
    ap suc (length-append (comma_after (length ds)) (grouped ds))
    ∙ omega (arith, comma_count (length ds), length-grouped ds)

pub length-grouped-decimal : (x : ℕ) → length (grouped (decimal x)) ≡ places 10 x + (places 10 x - 1) / 3
length-grouped-decimal x = length-grouped (decimal x) ∙ ap (λ (n : ℕ). n + (n - 1) / 3) (length-numeral false 10 x)

-- The text of digits that have r more to their right.
unfoldable grouped_by : ℕ → List ℕ → List ℕ
grouped_by r [] = []
grouped_by r (d ∷ ds) = d ∷ (comma_after (length ds + r) ++ grouped_by r ds)

by_none : (ds : List ℕ) → grouped_by 0 ds ≡ grouped ds
unfolding grouped grouped_by
by_none [] = refl
by_none (d ∷ ds) = rw (add-zero, by_none ds)

by_last : (r : ℕ) (ds : List ℕ) (d : ℕ) → grouped_by r (ds ++ (d ∷ [])) ≡ grouped_by (r + 1) ds ++ (d ∷ comma_after r)
unfolding grouped_by
by_last r [] d = ap (λ (n : ℕ). d ∷ (comma_after n ++ [])) (zero-add r) ∙ ap (λ (l : List ℕ). d ∷ l) (append-nil (comma_after r))
by_last r (c ∷ ds) d =
    let n : length (ds ++ (d ∷ [])) + r ≡ length ds + (r + 1) = omega (arith, length-append ds (d ∷ [])) in
    ap (λ (m : ℕ). c ∷ (comma_after m ++ grouped_by r (ds ++ (d ∷ [])))) n
    ∙ ap (λ (l : List ℕ). c ∷ (comma_after (length ds + (r + 1)) ++ l)) (by_last r ds d)
    ∙ ap (λ (l : List ℕ). c ∷ l) (sym (append_assoc (comma_after (length ds + (r + 1))) (grouped_by (r + 1) ds) (d ∷ comma_after r)))

-- From the last byte to the first: what is left of the number, and the digits written since the last comma. Three digits are followed by a comma.
abbrev pub group_byte : ℕ × ℕ → ℕ
group_byte s = choose (eqb s.1 3) (λ _. 44) (λ _. letter_of false (s.0 % 10))

abbrev pub group_next : ℕ × ℕ → ℕ × ℕ
group_next s = choose (eqb s.1 3) (λ _. (s.0, 0)) (λ _. (s.0 / 10, s.1 + 1))

-- the digits since the last comma, of r written
abbrev run : ℕ → ℕ
run zero = 0
run (suc r) = r % 3 + 1

-- the text of k digits of v that have r more to their right
unfoldable text : ℕ → ℕ → ℕ → List ℕ
text r k v = grouped_by r (letters_of false (digits_in 10 k v))

text-last : (r k v : ℕ) → text r (suc k) v ≡ text (r + 1) k (v / 10) ++ (letter_of false (v % 10) ∷ comma_after r)
unfolding text digits_in letters_of
text-last r k v =
    ap (grouped_by r) (letters-append false (digits_in 10 k (v / 10)) (v % 10 ∷ []))
    ∙ by_last r (letters_of false (digits_in 10 k (v / 10))) (letter_of false (v % 10))

-- t is written from its last byte to its first, from the state s on
abbrev Right : List ℕ → ℕ × ℕ → Type 0
Right t s = t ≡ from_right group_byte group_next (length t) s

one_digit : (t : List ℕ) (v q : ℕ) → (q ≡ 3 → ⊥) → Right t (v / 10, q + 1) → Right (t ++ (letter_of false (v % 10) ∷ [])) (v, q)
one_digit t v q n g =
    right_more group_byte group_next t (letter_of false (v % 10)) (v, q) (v / 10, q + 1) (simp (ne_eqb q 3 n)) (simp (ne_eqb q 3 n)) g

with_comma : (t : List ℕ) (v : ℕ) → Right t (v / 10, 1) → Right (t ++ (letter_of false (v % 10) ∷ (44 ∷ []))) (v, 3)
with_comma t v g =
    let d = letter_of false (v % 10) in
    subst (λ (l : List ℕ). Right l (v, 3)) (append_assoc t (d ∷ []) (44 ∷ []))
    (right_more group_byte group_next (t ++ (d ∷ [])) 44 (v, 3) (v, 0) refl refl (one_digit t v 0 (λ e. omega arith) g))

digit_before : (r : ℕ) (t : List ℕ) (v : ℕ) → Right t (v / 10, run (r + 1)) → Right (t ++ (letter_of false (v % 10) ∷ comma_after r)) (v, run r)
digit_before zero t v g = one_digit t v 0 (λ e. omega arith) g
digit_before (suc r) t v g =
    elim (ℕ_discrete (r % 3) 2) [
      | yes e ↦ at (44 ∷ []) 3 (comma r e) (omega arith) (with_comma t v (next 1 (omega arith)))
      | no n ↦ at [] (r % 3 + 1) (no_comma r n) refl (one_digit t v (r % 3 + 1) (λ e. n (omega arith)) (next (r % 3 + 1 + 1) (omega arith)))
    ]
  where
    at : (l : List ℕ) (q : ℕ) → comma_after (suc r) ≡ l → r % 3 + 1 ≡ q → Right (t ++ (letter_of false (v % 10) ∷ l)) (v, q)
        → Right (t ++ (letter_of false (v % 10) ∷ comma_after (suc r))) (v, r % 3 + 1)
    at l q e f h =
        subst (λ (m : List ℕ). Right (t ++ (letter_of false (v % 10) ∷ m)) (v, r % 3 + 1)) (sym e)
        (subst (λ (n : ℕ). Right (t ++ (letter_of false (v % 10) ∷ l)) (v, n)) (sym f) h)

    next : (q : ℕ) → suc r % 3 + 1 ≡ q → Right t (v / 10, q)
    next q e = subst (λ (n : ℕ). Right t (v / 10, n)) (ap run (add-one (suc r)) ∙ e) g

text_right : (r k v : ℕ) → Right (text r k v) (v, run r)
unfolding text digits_in letters_of grouped_by from_right
text_right r zero v = refl
text_right r (suc k) v =
    subst (λ (l : List ℕ). Right l (v, run r)) (sym (text-last r k v)) (digit_before r (text (r + 1) k (v / 10)) v (text_right (r + 1) k (v / 10)))

pub grouped_right : (x : ℕ) → grouped (decimal x) ≡ from_right group_byte group_next (length (grouped (decimal x))) (x, 0)
unfolding text digits numeral
grouped_right x = subst (λ (l : List ℕ). Right l (x, 0)) (by_none (letters_of false (digits_in 10 (places 10 x) x))) (text_right 0 (places 10 x) x)

pub ruleset grouped_lengths = (places_pos, twenty_places, length-grouped-decimal)
