-- Laws of a list that is counted record by record: what is counted, and what is left, make the whole. Assumes nothing.
use mathlib.Core.Path.{◌≡◌, refl, ap}
use mathlib.Core.Bool.{Bool, true, false}
use mathlib.Core.List.{List, [], ◌∷◌}
use Prim.Native.Nat.{ℕ, zero, suc, ◌+◌, ◌-◌, ◌≤◌, ◌<◌}
use native.Mathlib.Omega.{arith}
use borrow.Author.Tests.{lt-ltb, le-ltb}
use lib.Dec.{ltb}
use lib.ListN.{length}
use Rattle.std.specs.Prelude.{Option, Some, None}
use Rattle.writing.specs.Choose.{choose}
use Rattle.records.specs.Records.{record_at}
use Rattle.records.specs.Places.{FoundLies}
use Rattle.records.specs.Verdicts.{verdict_of, verdicts_from, verdicts, passes, failures, Counts, with_verdict}
use Rattle.records.specs.declared.Record.{Record}
use Rattle.records.specs.declared.Tally.{Tally}

one_more : (b : Bool) (vs : List Bool) → passes (b ∷ vs) + failures (b ∷ vs) ≡ suc (passes vs + failures vs)
unfolding passes failures
one_more true vs = omega arith
one_more false vs = omega arith

-- No more verdicts are counted than asked for.
abbrev Most : ℕ → List Bool → Type 0
Most k vs = passes vs + failures vs ≤ k

at_most : (holds : Record → Bool) (others : ℕ → List Bool) (k : ℕ) → ((n : ℕ) → Most k (others n)) → (b : Bool) (f : Option Record)
    → Most (suc k) (choose b (λ _. verdict_of holds others f) (λ _. []))
unfolding passes failures
at_most holds others k h true (Some r) = omega (arith, h r.next, one_more (holds r) (others r.next))
at_most holds others k h true None = omega arith
at_most holds others k h false f = omega arith

pub verdicts_most : (holds : Record → Bool) (k : ℕ) (s : List ℕ) (at : ℕ)
    → passes (verdicts_from holds k s at) + failures (verdicts_from holds k s at) ≤ k
unfolding verdicts_from passes failures
verdicts_most holds zero s at = omega arith
verdicts_most holds (suc k) s at =
    at_most holds (λ next. verdicts_from holds k s next) k (λ n. verdicts_most holds k s n) (ltb at (length s)) (record_at s at)

pub counts_most : (holds : Record → Bool) (s : List ℕ) (t : Tally) → Counts (verdicts holds s) t → t.passed + t.failed ≤ length s
counts_most holds s t c = omega (arith, verdicts_most holds (length s) s 0, c.passing, c.failing)

-- The verdicts that are left to a tally.
abbrev pub left : (Record → Bool) → List ℕ → Tally → List Bool
left holds s t = verdicts_from holds (length s - (t.passed + t.failed)) s t.at

pub record Counting (holds : Record → Bool) (s : List ℕ) (t : Tally) : Type 0 where
  pub few : t.passed + t.failed ≤ t.at
  pub in_list : t.at ≤ length s
  pub passing : t.passed + passes (left holds s t) ≡ passes (verdicts holds s)
  pub failing : t.failed + failures (left holds s t) ≡ failures (verdicts holds s)

-- Behind the list's end none is left.
left_none : (holds : Record → Bool) (s : List ℕ) (at k : ℕ) → length s ≤ at → verdicts_from holds k s at ≡ []
unfolding verdicts_from
left_none holds s at zero h = refl
left_none holds s at (suc k) h = simp (le-ltb _ _ h)

module _ (holds : Record → Bool) (s : List ℕ) where
  pub counting_none : Counting holds s (record { at = 0; passed = 0; failed = 0 })
  counting_none =
      let n : length s - (0 + 0) ≡ length s = omega arith in
      let e = ap (λ (k : ℕ). verdicts_from holds k s 0) n in
      record { few = omega arith; in_list = omega arith; passing = omega (arith, ap passes e); failing = omega (arith, ap failures e) }

  module _ (t : Tally) (c : Counting holds s t) where
    pub counting_end : length s ≤ t.at → Counts (verdicts holds s) t
    unfolding passes failures
    counting_end h =
        let e = left_none holds s t.at (length s - (t.passed + t.failed)) h in
        let p : passes (left holds s t) ≡ 0 = ap passes e in
        let f : failures (left holds s t) ≡ 0 = ap failures e in
        record { passing = omega (arith, c.passing, p); failing = omega (arith, c.failing, f) }

    -- One verdict more: p that hold and f that do not, whichever grew.
    grown : (p f next : ℕ) → p + f ≡ t.passed + t.failed + 1 → t.at < next → next ≤ length s
        → let vs = verdicts_from holds (length s - (t.passed + t.failed + 1)) s next in
        p + passes vs ≡ t.passed + passes (left holds s t) → f + failures vs ≡ t.failed + failures (left holds s t)
        → Counting holds s (record { at = next; passed = p; failed = f })
    grown p f next n h k passing failing =
        let e = ap (λ (m : ℕ). verdicts_from holds (length s - m) s next) n in
        record { few = omega arith; in_list = k; passing = omega (arith, c.passing, ap passes e); failing = omega (arith, c.failing, ap failures e) }

    more : (b : Bool) (next : ℕ) → left holds s t ≡ b ∷ verdicts_from holds (length s - (t.passed + t.failed + 1)) s next
        → t.at < next → next ≤ length s → Counting holds s (with_verdict b next t)
    unfolding passes failures
    more true next e h k = grown (t.passed + 1) t.failed next (omega arith) h k (omega (arith, ap passes e)) (omega (arith, ap failures e))
    more false next e h k = grown t.passed (t.failed + 1) next (omega arith) h k (omega (arith, ap passes e)) (omega (arith, ap failures e))

    module _ (h : t.at < length s) where
      fuel : length s - (t.passed + t.failed) ≡ suc (length s - (t.passed + t.failed + 1))
      fuel = omega (arith, c.few)

      pub counting_more : (r : Record) → record_at s t.at ≡ Some r → FoundLies s t.at (Some r) → Counting holds s (with_verdict (holds r) r.next t)
      unfolding verdicts_from
      counting_more r e l = more (holds r) r.next (simp (fuel, lt-ltb _ _ h, e)) l.0 l.1.in_list

      -- A record that breaks the layout is the last.
      left_broken : record_at s t.at ≡ None → left holds s t ≡ false ∷ []
      unfolding verdicts_from
      left_broken e = simp (fuel, lt-ltb _ _ h, e)

      pub counting_broken : record_at s t.at ≡ None → Counts (verdicts holds s) (with_verdict false t.at t)
      unfolding passes failures
      counting_broken e =
          let l = left_broken e in
          let p : passes (left holds s t) ≡ 0 = ap passes l in
          let f : failures (left holds s t) ≡ 1 = ap failures l in
          record { passing = omega (arith, c.passing, p); failing = omega (arith, c.failing, f) }

pub verdict_at : (b : Bool) (next : ℕ) (t : Tally) → (with_verdict b next t).at ≡ next
verdict_at true next t = refl
verdict_at false next t = refl
