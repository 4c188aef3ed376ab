-- `live::take_out` meets its contract. Assumes nothing.
use Rattle.std.proofs.Common.{◌≡◌, ℕ, [], List, length-set, get_or, slice_index, take, set, get_or-set_same, get_or-set_other}
use Rattle.std.proofs.Common.{ap, ◌∙◌, arith, subst}
use native.Mathlib.Decide.{dec_lt}
use Rattle.live.specs.Steps.{column_largest, lowered}
use Rattle.live.proofs.Leaving.{by_case, column_stored}
use Rattle.live.proofs.take_out.Goals as goal

pub loop-k-preserved : goal.loop-k-preserved
loop-k-preserved c =
    let a = c.args in
    let i = c.loop-k.invariant in
    let k : ℕ = c.loop-k.k in
    let rows : List (List ℕ) = c.loop-k.lengths in
    let own : List ℕ = c.replace_length-own.new.own in
    let stored : List (List ℕ) = set rows a.place own in
    let is : get_or stored a.place [] ≡ own = get_or-set_same rows a.place own [] (omega (arith, c.requires, i.size)) in
    let others : (j : ℕ) → (j ≡ k → ⊥) → slice_index (get_or stored a.place []) j ≡ slice_index (get_or rows a.place []) j =
    λ j n. ap (λ (r : List ℕ). slice_index r j) is ∙ c.replace_length-own.ensures.others j n in
    let from_last : slice_index (get_or rows a.last []) k ≡ slice_index (get_or a.lengths.now a.last []) k =
    by_case (λ (q : ℕ). slice_index (get_or rows q []) k ≡ slice_index (get_or a.lengths.now q []) k) a.place {n = 128} (λ h. i.own k (omega arith))
    (λ q n. ap (λ (r : List ℕ). slice_index r k) (i.kept q n)) a.last c.requires.1 in
    let Lowered : ℕ → Type 0 =
    λ j. slice_index c.lower.new.longest j
    ≡ lowered (slice_index (get_or a.lengths.now a.place []) j) (slice_index a.longest.now j) (column_largest (take a.last stored) j) in
    let now : Lowered k = rw (← i.own k (omega arith), ← i.later k (omega arith), ← c.replace_length-own.ensures.was) c.lower.ensures.lowered in
    record {
      size = length-set rows a.place own ∙ i.size;
      kept = λ j n. get_or-set_other rows a.place j own [] n ∙ i.kept j n;
      moved = λ j h. elim (dec_lt j k) [
        | yes l ↦ others j (λ e. omega arith) ∙ i.moved j l
        | no n ↦ let e : k ≡ j = omega arith in
            subst (λ (j : ℕ). slice_index (get_or stored a.place []) j ≡ slice_index (get_or a.lengths.now a.last []) j) e
            (ap (λ (r : List ℕ). slice_index r k) is ∙ c.replace_length-own.ensures.stored ∙ from_last)
      ];
      own = λ j h. others j (λ e. omega arith) ∙ i.own j (omega arith);
      lower = λ j h. elim (dec_lt j k) [
        | yes l ↦ c.lower.ensures.others j (λ e. omega arith)
            ∙ rw (column_stored rows a.last a.place j own (c.replace_length-own.ensures.others j (λ e. omega arith))) (i.lower j l)
        | no n ↦ let e : k ≡ j = omega arith in subst Lowered e now
      ];
      later = λ j h. c.lower.ensures.others j (λ e. omega arith) ∙ i.later j (omega arith);
    }
