-- What comes before the pieces: 1, 2, 3 and 14, and what holds of the kinds where these are excluded. Assumes nothing.
use mathlib.Core.Path.{◌≡◌, refl, sym, ap, subst, ◌∙◌}
use mathlib.Core.Bool.{Bool, true, false, ◌&&◌, ◌||◌}
use mathlib.Core.List.{List, [], ◌∷◌}
use Prim.Native.Nat.{ℕ, zero, suc, ◌-◌, ◌<◌}
use native.Mathlib.Decide.{dec_lt}
use native.Mathlib.Omega.{arith}
use lib.Dec.{eqb, leb}
use lib.ListN.{length, get_or}
use borrow.Author.Tests.{eqb-true, eq-eqb, le-leb, lt-leb}
use Rattle.refusals.specs.Limits.{most_kinds}
use Rattle.writing.specs.Text.{has}
use Rattle.writing.proofs.Choose.{both}
use Rattle.kinds.specs.Kinds.{unmarked, kind_of, is_known, all_known}
use Rattle.grammar.specs.Runs.{all}
use Rattle.grammar.specs.Elements.{kinds}
use Rattle.grammar.proofs.Letters.{never, all-has, known_kind}
use Rattle.grammar.proofs.Steps.{KindsKnown}
use Rattle.rows.specs.Row.{is_row}
use Rattle.causes.specs.Calls.{Call, checking, measuring, printing, OfRow, measured_row, printed_row}
use Rattle.causes.specs.Causes.{BadInput, many_kinds, no_kind, broken_row}
use Rattle.refusals.specs.declared.Refusal.{Refusal}
use Rattle.refusals.specs.declared.Refusal.TheVariants as R

-- every kind that is listed is known
pub kind_known : (k : ℕ) → has kinds k ≡ true → is_known (kind_of k) ≡ true
unfolding all kind_of
kind_known k h = all-has (λ k. is_known (kind_of k)) kinds k refl h

-- all of some kinds, and one that is not
known_at : (ks : List ℕ) (i : ℕ) → all_known ks ≡ true → i < length ks → is_known (kind_of (get_or ks i 0)) ≡ true
unfolding all_known
known_at [] i e h = absurd (omega arith)
known_at (k ∷ ks) zero e h = (both (is_known (kind_of k)) (all_known ks) e).0
known_at (k ∷ ks) (suc i) e h = known_at ks i (both (is_known (kind_of k)) (all_known ks) e).1 (omega arith)

known_has : (ks : List ℕ) (k : ℕ) → all_known ks ≡ true → has ks k ≡ true → is_known (kind_of k) ≡ true
unfolding all_known has
known_has [] k e h = absurd (never h)
known_has (x ∷ ks) k e h = let p = both (is_known (kind_of x)) (all_known ks) e in go (eqb x k) refl p.0 (known_has ks k p.1) h
  where
    go : (t : Bool) → eqb x k ≡ t → is_known (kind_of x) ≡ true → (has ks k ≡ true → is_known (kind_of k) ≡ true) → (t || has ks k) ≡ true
        → is_known (kind_of k) ≡ true
    go true q a ih h = subst (λ (y : ℕ). is_known (kind_of y) ≡ true) (eqb-true x k q) a
    go false q a ih h = ih h

record Unlisted (ks : List ℕ) : Type 0 where
  k : ℕ
  among : has ks k ≡ true
  unlisted : has kinds k ≡ false

unknown_one : (ks : List ℕ) → all_known ks ≡ false → Unlisted ks
unfolding all_known has
unknown_one [] e = absurd (never (sym e))
unknown_one (x ∷ ks) e = go (is_known (kind_of x)) refl e (unknown_one ks)
  where
    go : (t : Bool) → is_known (kind_of x) ≡ t → (t && all_known ks) ≡ false → (all_known ks ≡ false → Unlisted ks) → Unlisted (x ∷ ks)
    go true q f ih = let r = ih f in record { k = r.k; among = later (eqb x r.k) r.among; unlisted = r.unlisted }
      where
        later : (t : Bool) {b : Bool} → b ≡ true → (t || b) ≡ true
        later true h = refl
        later false h = h
    go false q f ih = record { k = x; among = simp (eq-eqb x x refl); unlisted = other (has kinds x) refl }
      where
        other : (t : Bool) → has kinds x ≡ t → t ≡ false
        other true h = absurd (never (sym q ∙ kind_known x h))
        other false h = refl

-- The test of checking's kinds, and 3.
module _ (s ks : List ℕ) where
  pub kinds_good : ((why : Refusal) → BadInput (checking s ks) why → ⊥) → (leb (length ks) most_kinds && all_known ks) ≡ true
  kinds_good good = go (all_known ks) refl
    where
      few : leb (length ks) most_kinds ≡ true
      few = elim (dec_lt most_kinds (length ks)) [ yes h ↦ absurd (good R.BadKinds (many_kinds h)) | no h ↦ le-leb (length ks) most_kinds (omega arith) ]

      go : (t : Bool) → all_known ks ≡ t → (leb (length ks) most_kinds && t) ≡ true
      go true q = simp few
      go false q = let r = unknown_one ks q in absurd (good R.BadKinds (no_kind r.k r.among r.unlisted))

  pub kinds_bad : (why : Refusal) → BadInput (checking s ks) why → ((leb (length ks) most_kinds && all_known ks) ≡ false) × (why ≡ R.BadKinds)
  kinds_bad why (many_kinds h) = (simp (lt-leb (length ks) most_kinds h), refl)
  kinds_bad _ (broken_row {row = row} x _) = elim x [ ]
  kinds_bad why (no_kind k h n) = (go (leb (length ks) most_kinds) (all_known ks) refl, refl)
    where
      go : (a b : Bool) → all_known ks ≡ b → (a && b) ≡ false
      go false b q = refl
      go true false q = refl
      go true true q = absurd (never (sym n ∙ known_kind k (known_has ks k q h)))

  pub bad_kinds : (leb (length ks) most_kinds && all_known ks) ≡ false → BadInput (checking s ks) R.BadKinds
  bad_kinds e = elim (dec_lt most_kinds (length ks)) [
    | yes h ↦ many_kinds h
    | no h ↦ let r = unknown_one ks (rw (le-leb (length ks) most_kinds (omega arith)) at e) in no_kind r.k r.among r.unlisted
  ]

-- The kinds of checking are known where the test holds.
pub checked-kinds : (ks : List ℕ) → all_known ks ≡ true → KindsKnown ks
unfolding all has
checked-kinds ks e a h i =
    let k = get_or ks (a - 1) 0 in
    all-has (λ k. has kinds (unmarked k)) kinds k refl (known_kind k (known_at ks (a - 1) e (omega arith)))

-- The row's layout, and 14.
pub row_good : {call : Call} {row : List ℕ} → OfRow call row → ((why : Refusal) → BadInput call why → ⊥) → is_row row ≡ true
row_good {call} {row} of good = go (is_row row) refl
  where
    go : (t : Bool) → is_row row ≡ t → t ≡ true
    go true q = refl
    go false q = absurd (good R.BrokenRow (broken_row of q))

same_row : {s row row' : List ℕ} → OfRow (measuring s row) row' → row' ≡ row
same_row measured_row = refl

same-printed : {s row row' : List ℕ} {room slots : ℕ} → OfRow (printing s row room slots) row' → row' ≡ row
same-printed printed_row = refl

pub measured_bad : {s row : List ℕ} (why : Refusal) → BadInput (measuring s row) why → (is_row row ≡ false) × (why ≡ R.BrokenRow)
measured_bad why (broken_row of h) = (sym (ap is_row (same_row of)) ∙ h, refl)

pub printed_bad : {s row : List ℕ} {room slots : ℕ} (why : Refusal) → BadInput (printing s row room slots) why → (is_row row ≡ false) × (why ≡ R.BrokenRow)
printed_bad why (broken_row of h) = (sym (ap is_row (same-printed of)) ∙ h, refl)
