-- What joining and leaving promise, from what their steps found and left. Assumes nothing.
use Rattle.std.proofs.Common.{◌≡◌, ℕ, ◌+◌, ◌-◌, ◌<◌, ◌≤◌, get_or, eqb, true, false, List, [], ◌∷◌, ◌++◌, length, slice_index, max, take, Option, Some, None, Ok}
use Rattle.std.proofs.Common.{Err, sym, refl, ◌∙◌, subst, arith, length-take, get_or-take, ne_eqb, le-leb}
use Rattle.std.proofs.lemmas.List.Quantifiers.{position-Some}
use Rattle.std.proofs.lemmas.Grind.{common_steps}
use Rattle.std.proofs.lemmas.List.Sums.{fails_before_first}
use Rattle.std.proofs.lemmas.Result.{err_from_is_err_and}
use Rattle.std.specs.List.{position_or_len}
use Rattle.std.specs.Option.{is_some}
use borrow.Author.Tests.{lt-leb, eqb-true, eqb-false}
use Rattle.refusals.specs.Limits.{most_gates, most_pieces}
use Rattle.outcomes.specs.Printed.{measured}
use Rattle.outcomes.specs.declared.Measured.{Measured}
use Rattle.refusals.specs.Numbers.{refusal_number}
use Rattle.refusals.specs.declared.Refusal.{Refusal}
use Rattle.refusals.specs.declared.Refusal.TheVariants.{GatePresent, GateAbsent, ListFull}
use Rattle.refusals.specs.declared.Stop.{Stop}
use Rattle.refusals.proofs.Numbers.{number_from_one}
use Rattle.gates.specs.Gates.{Gate, is_present, without, Change, joins, leaves, done, refused, changed_of, answer, changed, after, piece_length}
use Rattle.gates.specs.Same.{SameGates, next, through, gate_at}
use Rattle.gates.proofs.Same.{same_length, same-present, same-without, same-behind, taken_out}
use Rattle.gates.proofs.Places.{present_at, absent}
use Rattle.live.specs.declared.GateList.{GateList}
use Rattle.live.specs.Lists.{number_at, longest_at, Represents}
use Rattle.live.specs.Steps.{present, place_of}
use Rattle.live.specs.Promises.{Changes}
use Rattle.live.proofs.Joining.{joined, holds_more}
use Rattle.live.proofs.Leaving.{Left, holds_less, same_rest}

-- A call that is refused, whatever gates memory represents, leaves it as it was.
refuses : (s : List ℕ) (c : Change) (m : GateList) (why : Refusal) (place : ℕ)
    → ((gates : List Gate) → Represents s gates m → answer s gates c ≡ refused why place) → Changes Represents s c m (refused why place) m
unfolding after
refuses s c m why place h =
    record {
      answers = λ gates r. sym (h gates r);
      gates_after = λ gates r. simp (h gates r, ne_eqb (refusal_number why) 0 (λ z. omega (arith, (number_from_one why).0))) r;
      refusal = λ e. refl;
    }

-- A call that is done.
does : (s : List ℕ) (c : Change) (m m' : GateList)
    → ((gates : List Gate) → Represents s gates m → (answer s gates c ≡ done) × Represents s (changed gates c) m')
    → Changes Represents s c m done m'
unfolding after
does s c m m' h =
    record {
      answers = λ gates r. sym (h gates r).0;
      gates_after = λ gates r. simp (h gates r).0 (h gates r).1;
      refusal = λ e. absurd (e refl);
    }

-- What a join asks of the place.
some_of : (o : Option ℕ) → is_some o ≡ true → (place : ℕ) × (o ≡ Some place)
some_of None e = cc
some_of (Some place) e = (place, refl)

pub none_of : (o : Option ℕ) → is_some o ≡ false → o ≡ None
none_of None e = refl
none_of (Some place) e = cc

-- A place that was found, or none, in memory that represents gates.
module _ (s : List ℕ) (m : GateList) (n : ℕ) (size : length m.numbers ≡ 128) where
  here : (i : ℕ) → i < present m → get_or (take (present m) m.numbers) i 0 ≡ number_at m i
  here i h = get_or-take (present m) m.numbers i 0 h

  at : (place : ℕ) → place_of m n ≡ Some place → (place < present m) × (number_at m place ≡ n)
  at place e =
      let found = position-Some (λ number. eqb number n) (take (present m) m.numbers) place 0 e in
      let l : place < present m = omega (arith, found.0, length-take (present m) m.numbers) in
      (l, sym (here place l) ∙ eqb-true _ _ found.1)

  nowhere : place_of m n ≡ None → (i : ℕ) → i < present m → number_at m i ≡ n → ⊥
  nowhere e i h is =
      let xs = take (present m) m.numbers in
      let none : length xs ≤ position_or_len (λ number. eqb number n) xs = grind (arith, common_steps) in
      eqb-false _ _ (fails_before_first (λ number. eqb number n) xs i 0 (omega (arith, length-take (present m) m.numbers))) (here i h ∙ is)

  module _ (gates : List Gate) (r : Represents s gates m) where
    all : present m ≡ length r.held
    all = omega (arith, r.holds.count, r.holds.few)

    as_many : present m ≡ length gates
    as_many = all ∙ same_length r.same

    there : (place : ℕ) → place_of m n ≡ Some place → (gate_at r.held place).number ≡ n
    there place e = let f = at place e in sym (r.holds.numbers place (omega (arith, all, f.0))) ∙ f.1

    found : (place : ℕ) → place_of m n ≡ Some place → is_present n gates ≡ true
    found place e = sym (same-present n r.same) ∙ present_at n r.held place (omega (arith, all, (at place e).0)) (there place e)

    new : place_of m n ≡ None → (i : ℕ) → i < length r.held → (gate_at r.held i).number ≡ n → ⊥
    new e i l is = nowhere e i (omega (arith, all)) (r.holds.numbers i l ∙ is)

    missing : place_of m n ≡ None → is_present n gates ≡ false
    missing e = sym (same-present n r.same) ∙ absent n r.held (new e)

  -- Joining.
  module _ (row : List ℕ) where
    pub is-present : is_some (place_of m n) ≡ true → Changes Represents s (joins n row) m (refused GatePresent 0) m
    unfolding answer
    is-present e =
        let f = some_of (place_of m n) e in
        refuses s (joins n row) m GatePresent 0 (λ gates r. simp (found gates r f.0 f.1))

    pub is-full : place_of m n ≡ None → most_gates ≤ present m → Changes Represents s (joins n row) m (refused ListFull 0) m
    unfolding answer
    is-full e full =
        refuses s (joins n row) m ListFull 0
        (λ gates r. simp (missing gates r e, le-leb most_gates (length gates) (omega (arith, as_many gates r))))

    pub is-unmeasured : place_of m n ≡ None → present m < most_gates → (t : Stop) → measured s row ≡ Err t
        → Changes Represents s (joins n row) m (changed_of (Err t)) m
    unfolding answer
    is-unmeasured e few t is =
        refuses s (joins n row) m t.refusal t.place
        (λ gates r. simp (missing gates r e, lt-leb most_gates (length gates) (omega (arith, as_many gates r)), is))

    module _ (e : place_of m n ≡ None) (count : ℕ) (is : count ≡ present m) (few : count < most_gates) (rows : length m.lengths ≡ 128) (longest own : List ℕ)
        (written : (k : ℕ) → k < most_pieces → slice_index own k ≡ piece_length s row k)
        (raised : (k : ℕ) → k < most_pieces → slice_index longest k ≡ max (longest_at m k) (piece_length s row k)) where
      abbrev g : Gate
      g = record { number = n; row = row }

      abbrev end : GateList
      end = joined m count n longest own

      now : (gates : List Gate) → Represents s gates m → Represents s (g ∷ gates) end
      now gates r =
          let c : count ≡ length r.held = is ∙ all gates r in
          record {
            held = r.held ++ (g ∷ []);
            holds = holds_more s r.held m g r.holds (omega arith) (new gates r e) count c size rows longest own written raised;
            same = through (same-behind r.held g) (next g r.same);
          }

      pub is-joined : (found : Measured) → measured s row ≡ Ok found → Changes Represents s (joins n row) m done end
      unfolding answer
      is-joined x f =
          does s (joins n row) m end
          (λ gates r. (simp (missing gates r e, lt-leb most_gates (length gates) (omega (arith, as_many gates r)), f), now gates r))

  -- Leaving.
  pub is_absent : place_of m n ≡ None → Changes Represents s (leaves n) m (refused GateAbsent 0) m
  unfolding answer
  is_absent e = refuses s (leaves n) m GateAbsent 0 (λ gates r. simp (missing gates r e))

  module _ (place : ℕ) (e : place_of m n ≡ Some place) (last : ℕ) (is : last ≡ present m - 1) (m' : GateList) (w : Left m place last m') where
    rest : (gates : List Gate) → Represents s gates m → Represents s (without n gates) m'
    rest gates r =
        let c = all gates r in
        let l : place < length r.held = omega (arith, c, (at place e).0) in
        let less : last + 1 ≡ length r.held = omega (arith, c, l) in
        record {
          held = taken_out place r.held;
          holds = holds_less s r.held m place last r.holds l less m' w;
          same = through (subst (λ (i : ℕ). SameGates (taken_out place r.held) (without i r.held)) (there gates r place e)
              (same_rest s r.held m place last r.holds l less)) (same-without n r.same);
        }

    pub is_left : Changes Represents s (leaves n) m done m'
    unfolding answer
    is_left = does s (leaves n) m m' (λ gates r. (simp (found gates r place e), rest gates r))

pub ruleset joining = (none_of, is-present, is-full, is-unmeasured, err_from_is_err_and)
