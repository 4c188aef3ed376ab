-- The gates present after calls: at most 128, none of them twice, and one less after a leave. Assumes nothing.
use Rattle.std.specs.Prelude.{Ok}
use mathlib.Core.Path.{◌≡◌, refl, sym, ap, subst, ◌∙◌}
use mathlib.Core.Bool.{Bool, true, false, true≢false}
use mathlib.Core.List.{List, [], ◌∷◌}
use Prim.Native.Nat.{ℕ, suc, ◌+◌, ◌≤◌, ◌<◌}
use native.Mathlib.Decide.{dec_lt}
use native.Mathlib.Omega.{arith}
use lib.Dec.{eqb}
use lib.ListN.{length}
use borrow.Author.Tests.{eqb-true, lt-leb}
use Rattle.refusals.specs.Limits.{most_gates}
use Rattle.writing.specs.Choose.{choose}
use Rattle.writing.proofs.Choose.{by_test}
use Rattle.outcomes.specs.Printed.{measured}
use Rattle.outcomes.specs.declared.Measured.{Measured}
use Rattle.refusals.specs.Numbers.{refusal_number}
use Rattle.refusals.specs.declared.Refusal.TheVariants.{GatePresent, ListFull}
use Rattle.gates.specs.Gates.{Gate, is_present, without, Change, joins, leaves, done, answer, changed, after, present_after}
use Rattle.gates.specs.Causes.{ListCause}
use Rattle.gates.specs.Causes as K
use Rattle.gates.specs.declared.Changed.{Changed}
use Rattle.gates.proofs.Causes.{refuses}
use Rattle.gates.proofs.Places.{neither, all_without}
use Rattle.refusals.specs.declared.Refusal.{Refusal}

abbrev pub Apart : List Gate → Type 0
Apart [] = Unit {0}
Apart (g ∷ gates) = (is_present g.number gates ≡ false) × Apart gates

-- What is not among gates is not among some of them.
absent-without : (n k : ℕ) (gates : List Gate) → is_present k gates ≡ false → is_present k (without n gates) ≡ false
unfolding is_present without
absent-without n k [] h = refl
absent-without n k (g ∷ gates) h =
    let e = neither (eqb g.number k) (is_present k gates) h in
    let rest = absent-without n k gates e.1 in
    by_test (λ (l : List Gate). is_present k l ≡ false) (eqb g.number n) _ _ (λ _. rest) (λ _. simp (e.0, rest))

apart-without : (n : ℕ) (gates : List Gate) → Apart gates → Apart (without n gates)
unfolding without
apart-without n [] a = tt
apart-without n (g ∷ gates) a =
    by_test Apart (eqb g.number n) _ _ (λ _. apart-without n gates a.1) (λ _. (absent-without n g.number gates a.0, apart-without n gates a.1))

one_less : (n : ℕ) (gates : List Gate) → Apart gates → is_present n gates ≡ true → length (without n gates) + 1 ≡ length gates
unfolding is_present without
one_less n [] a h = absurd (true≢false (sym h))
one_less n (g ∷ gates) a h = go (eqb g.number n) refl (one_less n gates a.1)
  where
    go : (t : Bool) → eqb g.number n ≡ t → (is_present n gates ≡ true → length (without n gates) + 1 ≡ length gates)
        → length (choose t (λ _. without n gates) (λ _. g ∷ without n gates)) + 1 ≡ suc (length gates)
    go true e rest =
        let here : is_present n gates ≡ false = subst (λ (k : ℕ). is_present k gates ≡ false) (eqb-true g.number n e) a.0 in
        rw (all_without n gates here) (omega arith)
    go false e rest = let there : is_present n gates ≡ true = simp e at h in omega (arith, rest there)

no_more : (n : ℕ) (gates : List Gate) → length (without n gates) ≤ length gates
unfolding without
no_more n [] = omega arith
no_more n (g ∷ gates) =
    let rest = no_more n gates in
    by_test (λ (l : List Gate). length l ≤ suc (length gates)) (eqb g.number n) _ _ (λ _. omega arith) (λ _. omega arith)

-- What holds of the gates present after every sequence of calls.
pub record Kept (gates : List Gate) : Type 0 where
  pub few : length gates ≤ most_gates
  pub apart : Apart gates

module _ (s : List ℕ) where
  -- A join that is done found the gate absent and room for it.
  had_room : (gates : List Gate) (n : ℕ) (row : List ℕ) → (answer s gates (joins n row)).number ≡ 0 → (is_present n gates ≡ false) × (length gates < most_gates)
  had_room gates n row e = go (is_present n gates) refl
    where
      not_refused : (m : Refusal) (p : ℕ) → ListCause s gates (joins n row) m p → refusal_number m ≡ 0
      not_refused m p x = sym (ap (λ (a : Changed). a.number) (refuses s gates x)) ∙ e

      go : (t : Bool) → is_present n gates ≡ t → (is_present n gates ≡ false) × (length gates < most_gates)
      go true h = absurd (let z = not_refused GatePresent 0 (K.present h) in omega arith)
      go false h = (
        h,
        elim (dec_lt (length gates) most_gates)
            [ yes l ↦ l | no l ↦ absurd (let z = not_refused ListFull 0 (K.full h (omega arith)) in omega arith) ],
      )

  after_call : (gates : List Gate) (c : Change) → Kept gates → Kept (after s gates c)
  unfolding after
  after_call gates c k = by_test Kept (eqb (answer s gates c).number 0) _ _ (λ e. by_call c (eqb-true (answer s gates c).number 0 e)) (λ _. k)
    where
      by_call : (c : Change) → (answer s gates c).number ≡ 0 → Kept (changed gates c)
      by_call (joins n row) e = let r = had_room gates n row e in record { few = omega (arith, r.1); apart = (r.0, k.apart) }
      by_call (leaves n) e = record { few = omega (arith, no_more n gates, k.few); apart = apart-without n gates k.apart }

  pub kept : (calls : List Change) → Kept (present_after s calls)
  unfolding present_after
  kept [] = record { few = omega arith; apart = tt }
  kept (c ∷ calls) = after_call (present_after s calls) c (kept calls)

  -- "A place freed by a gate that left is usable again."
  pub place_freed : (calls : List Change) (n : ℕ) → is_present n (present_after s calls) ≡ true
      → length (present_after s (leaves n ∷ calls)) + 1 ≡ length (present_after s calls)
  unfolding present_after after answer
  place_freed calls n h = simp h (one_less n (present_after s calls) (kept calls).apart h)

  -- So a later join of a gate that is absent is done, where measuring accepts its row.
  pub place_usable : (calls : List Change) (n j : ℕ) (row : List ℕ) (found : Measured) → is_present n (present_after s calls) ≡ true
      → is_present j (present_after s (leaves n ∷ calls)) ≡ false → measured s row ≡ Ok found
      → answer s (present_after s (leaves n ∷ calls)) (joins j row) ≡ done
  unfolding answer
  place_usable calls n j row found h absent e =
      let few : length (present_after s (leaves n ∷ calls)) < most_gates = omega (arith, place_freed calls n h, (kept calls).few) in
      simp (absent, lt-leb most_gates (length (present_after s (leaves n ∷ calls))) few, e)
