-- 01, "Reading a piece back": "The rule is fed the piece's bytes and the element's letter, nothing else." It answers a number or nothing.
use Rattle.std.specs.Prelude.{ℕ, ◌+◌, ◌-◌, ◌*◌, Bool, true, false, ◌&&◌, ◌||◌, List, [], ◌∷◌, leb, ltb, eqb, ℤ, length, Option, None, Some}
use Prim.Native.Char.{code}
use Rattle.writing.specs.Choose.{choose}
use Rattle.numerals.specs.Integers.{signed}
use Rattle.reading.specs.Kept.{kept}

-- f of what a step found; nothing where it found nothing
infixl 20 ◌and_then◌
abbrev pub ◌and_then◌ : {A B : Type 0} → Option A → (A → Option B) → Option B
None and_then f = None
Some a and_then f = f a

-- The digit that a small letter stands for in a base.
unfoldable pub digit_of : ℕ → ℕ → Option ℕ
digit_of base c =
    choose (leb (code "0") c && leb c (code "9")) (λ _. below (c - code "0"))
    (λ _. choose (leb (code "a") c && leb c (code "f")) (λ _. below (c - code "a" + 10)) (λ _. None))
  where
    below : ℕ → Option ℕ
    below d = choose (ltb d base) (λ _. Some d) (λ _. None)

-- Digits as one whole number, v standing before them. Leading zeros count nothing.
unfoldable pub digits_from : ℕ → ℕ → List ℕ → Option ℕ
digits_from base v [] = Some v
digits_from base v (c ∷ cs) = digit_of base c and_then (λ d. digits_from base (v * base + d) cs)

-- A whole number: at least one digit.
unfoldable pub whole_number : ℕ → List ℕ → Option ℕ
whole_number base [] = None
whole_number base (c ∷ cs) = digits_from base 0 (c ∷ cs)

-- A decimal number, "perhaps with `-`".
unfoldable pub with_minus : List ℕ → Option ℤ
with_minus [] = None
with_minus (c ∷ cs) =
    choose (eqb c (code "-"))
    (λ _. whole_number 10 cs and_then (λ n. Some (signed true n)))
    (λ _. whole_number 10 (c ∷ cs) and_then (λ n. Some (signed false n)))

-- What stands before a closing bracket at the end.
unfoldable pub before_close : List ℕ → Option (List ℕ)
before_close [] = None
before_close (c ∷ []) = choose (eqb c (code ")")) (λ _. Some []) (λ _. None)
before_close (c ∷ d ∷ cs) = before_close (d ∷ cs) and_then (λ r. Some (c ∷ r))

-- "%d: decimal digits, negative after `-` or inside brackets."
unfoldable pub read_decimal : List ℕ → Option ℤ
read_decimal [] = None
read_decimal (c ∷ cs) =
    choose (eqb c (code "("))
    (λ _. before_close cs and_then (λ ds. whole_number 10 ds and_then (λ n. Some (signed true n))))
    (λ _. with_minus (c ∷ cs))

-- What stands behind `0x`; nothing where the text does not begin so.
unfoldable pub after_prefix : List ℕ → Option (List ℕ)
after_prefix [] = None
after_prefix (c ∷ []) = None
after_prefix (c ∷ d ∷ cs) = choose (eqb c (code "0") && eqb d (code "x")) (λ _. Some cs) (λ _. None)

-- "a leading `0x` or `0X` is dropped"
abbrev pub or_whole : List ℕ → Option (List ℕ) → List ℕ
or_whole cs None = cs
or_whole cs (Some ds) = ds

-- "%x, %o: a leading `0x` or `0X` is dropped, then digits in base 16 or 8."
unfoldable pub read_bits : ℕ → List ℕ → Option ℕ
read_bits base cs = whole_number base (or_whole cs (after_prefix cs))

-- A text in two at the first byte b, which is in neither.
pub record Halves : Type 0 where
  pub front : List ℕ
  pub back : List ℕ

unfoldable pub cut_at : ℕ → List ℕ → Option Halves
cut_at b [] = None
cut_at b (c ∷ cs) =
    choose (eqb c b)
    (λ _. Some (record { front = []; back = cs }))
    (λ _. cut_at b cs and_then (λ h. Some (record { front = c ∷ h.front; back = h.back })))

-- "All hexadecimal digits make one whole number m; with f of them after the point and power e, the number is m times 2 to the (e - 4f),
-- its sign negative after the mark `-`, zero too."
pub record Scaled : Type 0 where
  pub negative : Bool
  pub m : ℕ
  pub f : ℕ
  pub e : ℤ

-- "`0x`, hexadecimal digits with a point, and a decimal power of two after `p`, perhaps with `-`": at least one digit on each side of the point.
unfoldable pub read_magnitude : Bool → List ℕ → Option Scaled
read_magnitude negative cs =
    after_prefix cs and_then (λ ds.
    cut_at (code ".") ds and_then (λ point.
    cut_at (code "p") point.back and_then (λ power.
    whole_number 16 point.front and_then (λ w.
    whole_number 16 power.front and_then (λ _.
    digits_from 16 w power.front and_then (λ m.
    with_minus power.back and_then (λ e.
    Some (record { negative = negative; m = m; f = length power.front; e = e }))))))))

-- "%a: mark, `0x`, .."
unfoldable pub read_float : List ℕ → Option Scaled
read_float [] = None
read_float (c ∷ cs) = choose (eqb c (code "-")) (λ _. read_magnitude true cs) (λ _. read_magnitude false (c ∷ cs))

-- What a piece is read as: an integer, a pattern of bits, or a number with a power of two.
pub data Reading : Type 0 where
  Unread : Reading
  Integer : ℤ → Reading
  Bits : ℕ → Reading
  Float : Scaled → Reading

abbrev pub reading : {A : Type 0} → (A → Reading) → Option A → Reading
reading f None = Unread
reading f (Some a) = f a

-- The rule for a letter, as its byte.
unfoldable pub read_piece : ℕ → List ℕ → Reading
read_piece letter piece =
    choose (eqb letter (code "d")) (λ _. reading Integer (read_decimal (kept piece)))
    (λ _. choose (eqb letter (code "x") || eqb letter (code "X")) (λ _. reading Bits (read_bits 16 (kept piece)))
    (λ _. choose (eqb letter (code "o")) (λ _. reading Bits (read_bits 8 (kept piece)))
    (λ _. choose (eqb letter (code "a") || eqb letter (code "A")) (λ _. reading Float (read_float (kept piece))) (λ _. Unread))))
