-- A call on a list is refused with a number and a place exactly where their cause holds, and the numbers are 1 to 21. Assumes nothing.
use Rattle.std.specs.Prelude.{Option, None, Some, Ok, Err}
use mathlib.Core.Path.{◌≡◌, refl, sym, ap, subst, ◌∙◌}
use mathlib.Core.Bool.{false}
use mathlib.Core.List.{List}
use Prim.Native.Nat.{ℕ, ◌≤◌, ◌<◌}
use native.Mathlib.Omega.{arith}
use lib.Dec.{leb}
use lib.ListN.{length}
use borrow.Author.Tests.{le-leb, lt-leb, leb-true, leb-false}
use Rattle.refusals.specs.Limits.{most_gates}
use Rattle.writing.proofs.Choose.{by_test}
use Rattle.outcomes.specs.Printed.{Outcome, measured}
use Rattle.causes.specs.Calls.{measuring, of_outcome}
use Rattle.grammar.proofs.Numbers.{table_numbers}
use Rattle.causes.proofs.Causes.{exactly, number_in_table}
use Rattle.refusals.specs.Numbers.{refusal_number, stop}
use Rattle.refusals.specs.declared.Refusal.{Refusal}
use Rattle.refusals.specs.declared.Stop.{Stop}
use Rattle.refusals.proofs.Numbers.{number_tells, number_from_one}
use Rattle.gates.specs.Gates.{Gate, is_present, Change, joins, leaves, done, refused, if_measured, answer}
use Rattle.gates.specs.Causes.{ListCause, NumberedCause, numbered}
use Rattle.gates.specs.Causes as K
use Rattle.gates.specs.declared.Changed.{Changed}

-- A call is done, or refused with a cause.
pub data Judged (s : List ℕ) (gates : List Gate) (c : Change) (a : Changed) : Type 0 where
  accepted : a ≡ done → Judged s gates c a
  caused : {n : Refusal} {p : ℕ} → ListCause s gates c n p → a ≡ refused n p → Judged s gates c a

module _ (s : List ℕ) (gates : List Gate) where
  pub judged : (c : Change) → Judged s gates c (answer s gates c)
  unfolding answer
  judged (joins n row) =
      by_test (Judged s gates (joins n row)) (is_present n gates) _ _ (λ h. caused (K.present h) refl)
      (λ h. by_test (Judged s gates (joins n row)) (leb most_gates (length gates)) _ _
      (λ full. caused (K.full h (leb-true most_gates (length gates) full)) refl)
      (λ few. go h (leb-false most_gates (length gates) few) (measured s row) refl))
    where
      go : is_present n gates ≡ false → length gates < most_gates → (o : Outcome) → measured s row ≡ o → Judged s gates (joins n row) (if_measured o)
      go h few (Ok m) e = accepted refl
      go h few (Err t) e = caused (K.unmeasured h (omega arith) ((exactly (measuring s row) t.refusal t.place).0 (ap of_outcome e))) refl
  judged (leaves n) =
      by_test (Judged s gates (leaves n)) (is_present n gates) _ _ (λ h. accepted refl) (λ h. caused (K.absent h) refl)

  pub refuses : {c : Change} {n : Refusal} {p : ℕ} → ListCause s gates c n p → answer s gates c ≡ refused n p
  unfolding answer
  refuses (K.present h) = simp h
  refuses (K.absent h) = simp h
  refuses (K.full h full) = simp (h, le-leb most_gates (length gates) full)
  refuses (K.unmeasured {row = row} {why} {place} h few x) =
      simp (h, lt-leb most_gates (length gates) few) (of_measured (measured s row) ((exactly (measuring s row) why place).1 x))
    where
      of_measured : (o : Outcome) → of_outcome o ≡ Some (stop why place) → if_measured o ≡ refused why place
      of_measured (Ok m) e = absurd (let z : ◌≡◌ {A = ℕ} 0 1 = cc in omega arith)
      of_measured (Err t) e = ap told e
        where
          told : Option Stop → Changed
          told None = done
          told (Some t) = refused t.refusal t.place

  -- The numbers of refusals are 1 to 21.
  pub number_in_range : {c : Change} {n : Refusal} {p : ℕ} → ListCause s gates c n p → (1 ≤ refusal_number n) × (refusal_number n ≤ 21)
  number_in_range (K.present h) = (omega arith, omega arith)
  number_in_range (K.absent h) = (omega arith, omega arith)
  number_in_range (K.full h full) = (omega arith, omega arith)
  number_in_range (K.unmeasured {row = row} {why} {place} h few x) =
      let r = number_in_table (measuring s row) why place ((exactly (measuring s row) why place).1 x) in (r.0, omega (arith, r.1))

  -- A call is refused with a number and a place exactly where their cause holds, and done exactly where none does.
  pub cause_of : (c : Change) (n : Refusal) (p : ℕ) → answer s gates c ≡ refused n p → ListCause s gates c n p
  cause_of c n p e = go (judged c)
    where
      go : Judged s gates c (answer s gates c) → ListCause s gates c n p
      go (accepted q) = absurd (let z = ap (λ (a : Changed). a.number) (sym e ∙ q) in omega (arith, (number_from_one n).0))
      go (caused {n = m} {p = r} x q) =
          let f = sym q ∙ e in
          subst (ListCause s gates c n) (ap (λ (a : Changed). a.place) f)
          (subst (λ (i : Refusal). ListCause s gates c i r) (number_tells m n (ap (λ (a : Changed). a.number) f)) x)

  -- And by the number that C reads: any but 0 has its cause, and a cause is answered with its number.
  pub cause_of_number : (c : Change) (n p : ℕ) → answer s gates c ≡ record { number = n; place = p } → (n ≡ 0 → ⊥) → NumberedCause s gates c n p
  cause_of_number c n p e h = go (judged c)
    where
      go : Judged s gates c (answer s gates c) → NumberedCause s gates c n p
      go (accepted q) = absurd (h (ap (λ (a : Changed). a.number) (sym e ∙ q)))
      go (caused {n = m} {p = r} x q) =
          let f = sym q ∙ e in
          numbered (table_numbers m ∙ ap (λ (a : Changed). a.number) f) (subst (ListCause s gates c m) (ap (λ (a : Changed). a.place) f) x)

  pub number_refuses : {c : Change} {n p : ℕ} → NumberedCause s gates c n p → answer s gates c ≡ record { number = n; place = p }
  number_refuses {c} {n} {p} (numbered {why = r} e x) =
      refuses x ∙ ap {A = ℕ} {B = Changed} (λ k. record { number = k; place = p }) (sym (table_numbers r) ∙ e)

  pub done_exactly : (c : Change)
      → (answer s gates c ≡ done → (n : Refusal) (p : ℕ) → ListCause s gates c n p → ⊥)
      × (((n : Refusal) (p : ℕ) → ListCause s gates c n p → ⊥) → answer s gates c ≡ done)
  done_exactly c = (never, only)
    where
      never : answer s gates c ≡ done → (n : Refusal) (p : ℕ) → ListCause s gates c n p → ⊥
      never e n p x =
          let zero : refusal_number n ≡ 0 = ap (λ (a : Changed). a.number) (sym (refuses x) ∙ e) in
          omega (arith, (number_in_range x).0)

      only : ((n : Refusal) (p : ℕ) → ListCause s gates c n p → ⊥) → answer s gates c ≡ done
      only h = go (judged c)
        where
          go : Judged s gates c (answer s gates c) → answer s gates c ≡ done
          go (accepted q) = q
          go (caused {n = n} {p = p} x q) = absurd (h n p x)
