-- The answers of checking, measuring and printing in C tell every outcome apart: number 0 is acceptance and nothing else. Assumes nothing.
use Rattle.std.proofs.Common.{◌≡◌, ℕ, List, None, Result, Ok, Err, refl, sym, ap, ◌∙◌, arith}
use Rattle.refusals.specs.Numbers.{refusal_number}
use Rattle.refusals.specs.declared.Refusal.{Refusal}
use Rattle.refusals.specs.declared.Stop.{Stop}
use Rattle.refusals.proofs.Numbers.{number_tells, number_from_one}
use Rattle.parsing.specs.Check.{checked}
use Rattle.parsing.specs.declared.Checked.{Checked}
use Rattle.outcomes.specs.Printed.{Outcome, measured, printed}
use Rattle.causes.specs.Calls.{of_checked, of_outcome}
use Rattle.panel.specs.Entries.{check_answer, print_answer}
use Rattle.panel.specs.declared.CheckAnswer.{CheckAnswer}
use Rattle.panel.specs.declared.PrintAnswer.{PrintAnswer}

-- two stops with the same number and place are one
same_stop : (t u : Stop) → refusal_number t.refusal ≡ refusal_number u.refusal → t.place ≡ u.place → t ≡ u
same_stop t u n p =
    ap (λ (r : Refusal). record { refusal = r; place = t.place }) (number_tells t.refusal u.refusal n)
    ∙ ap (λ (q : ℕ). record { refusal = u.refusal; place = q }) p

-- no refusal has the number 0
not_zero : {P : Type 0} (r : Refusal) → refusal_number r ≡ 0 → P
not_zero r e = absurd (omega (arith, (number_from_one r).0))

-- an answer says what was answered
check_apart : (x y : Result Checked Stop) → check_answer x ≡ check_answer y → x ≡ y
check_apart (Ok x) (Ok y) e =
    ap (λ (n : ℕ). Ok (record { pieces = n; largest = x.largest })) (ap (λ (r : CheckAnswer). r.pieces) e)
    ∙ ap (λ (n : ℕ). Ok (record { pieces = y.pieces; largest = n })) (ap (λ (r : CheckAnswer). r.largest) e)
check_apart (Ok x) (Err u) e = not_zero u.refusal (sym (ap (λ (r : CheckAnswer). r.number) e))
check_apart (Err t) (Ok y) e = not_zero t.refusal (ap (λ (r : CheckAnswer). r.number) e)
check_apart (Err t) (Err u) e = ap Err (same_stop t u (ap (λ (r : CheckAnswer). r.number) e) (ap (λ (r : CheckAnswer). r.place) e))

print_apart : (x y : Outcome) → print_answer x ≡ print_answer y → x ≡ y
print_apart (Ok x) (Ok y) e =
    ap (λ (n : ℕ). Ok (record { length = n; pieces = x.pieces })) (ap (λ (r : PrintAnswer). r.length) e)
    ∙ ap (λ (n : ℕ). Ok (record { length = y.length; pieces = n })) (ap (λ (r : PrintAnswer). r.pieces) e)
print_apart (Ok x) (Err u) e = not_zero u.refusal (sym (ap (λ (r : PrintAnswer). r.number) e))
print_apart (Err t) (Ok y) e = not_zero t.refusal (ap (λ (r : PrintAnswer). r.number) e)
print_apart (Err t) (Err u) e = ap Err (same_stop t u (ap (λ (r : PrintAnswer). r.number) e) (ap (λ (r : PrintAnswer). r.place) e))

-- Of checking, measuring and printing: calls that are answered alike come to the same.
pub checks_apart : (s ks s' ks' : List ℕ) → check_answer (checked s ks) ≡ check_answer (checked s' ks') → checked s ks ≡ checked s' ks'
checks_apart s ks s' ks' e = check_apart (checked s ks) (checked s' ks') e

pub measures_apart : (s row s' row' : List ℕ) → print_answer (measured s row) ≡ print_answer (measured s' row') → measured s row ≡ measured s' row'
measures_apart s row s' row' e = print_apart (measured s row) (measured s' row') e

pub prints-apart : (s row : List ℕ) (room slots : ℕ) (s' row' : List ℕ) (room' slots' : ℕ)
    → print_answer (printed s row room slots) ≡ print_answer (printed s' row' room' slots') → printed s row room slots ≡ printed s' row' room' slots'
prints-apart s row room slots s' row' room' slots' e = print_apart (printed s row room slots) (printed s' row' room' slots') e

-- Number 0 is acceptance.
pub check_zero : (s ks : List ℕ) → (check_answer (checked s ks)).number ≡ 0 → of_checked (checked s ks) ≡ None
check_zero s ks e = go (checked s ks) e
  where
    go : (x : Result Checked Stop) → (check_answer x).number ≡ 0 → of_checked x ≡ None
    go (Ok x) e = refl
    go (Err t) e = not_zero t.refusal e

outcome_zero : (x : Outcome) → (print_answer x).number ≡ 0 → of_outcome x ≡ None
outcome_zero (Ok x) e = refl
outcome_zero (Err t) e = not_zero t.refusal e

pub measure_zero : (s row : List ℕ) → (print_answer (measured s row)).number ≡ 0 → of_outcome (measured s row) ≡ None
measure_zero s row e = outcome_zero (measured s row) e

pub print_zero : (s row : List ℕ) (room slots : ℕ) → (print_answer (printed s row room slots)).number ≡ 0 → of_outcome (printed s row room slots) ≡ None
print_zero s row room slots e = outcome_zero (printed s row room slots) e
