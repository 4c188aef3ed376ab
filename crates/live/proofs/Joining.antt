-- What memory holds where a list was emptied, and where a gate was taken in. Assumes nothing.
use Rattle.std.proofs.Common.{◌≡◌, ℕ, ◌+◌, ◌<◌, List, [], ◌∷◌, ◌++◌, length, set, slice_index, max, get_or-set_same, get_or-set_other, sym, ap, ◌∙◌, subst}
use Rattle.std.proofs.Common.{arith, length-append}
use native.Mathlib.Decide.{dec_lt}
use lib.ListN.{get_or-append}
use lib.Seq.{get_or-append_seam}
use Rattle.refusals.specs.Limits.{most_gates, most_pieces}
use Rattle.gates.specs.Gates.{Gate, piece_length, largest}
use Rattle.gates.specs.Same.{none, no_gate, gate_at}
use Rattle.gates.proofs.Places.{largest-more}
use Rattle.live.specs.declared.GateList.{GateList}
use Rattle.live.specs.Lists.{number_at, longest_at, length_at, Holds, Represents}
use Rattle.live.specs.Promises.{Emptied}

pub emptied : (m : GateList) → m.count ≡ 0 → ((k : ℕ) → k < most_pieces → longest_at m k ≡ 0) → Emptied Represents m
unfolding largest
emptied m e h s = record { held = []; holds = holds; same = none }
  where
    holds : Holds s [] m
    holds =
        record {
          count = e;
          few = omega arith;
          numbers = λ i l. absurd (omega arith);
          lengths = λ i k l. absurd (omega arith);
          longest = λ k l. h k l;
          apart = λ i j l n. absurd (omega arith);
        }

-- The memory where a gate stands behind the others, with its lengths, and the largest lengths are these.
abbrev pub joined : GateList → ℕ → ℕ → List ℕ → List ℕ → GateList
joined m count n longest own = record { count = count + 1; numbers = set m.numbers count n; longest = longest; lengths = set m.lengths count own }

-- One gate more, behind the others.
module _ (s : List ℕ) (gates : List Gate) (m : GateList) (g : Gate) (h : Holds s gates m) (room : length gates < most_gates)
    (new : (i : ℕ) → i < length gates → (gate_at gates i).number ≡ g.number → ⊥) (count : ℕ) (is : count ≡ length gates)
    (size : length m.numbers ≡ 128) (rows : length m.lengths ≡ 128) (longest own : List ℕ)
    (written : (k : ℕ) → k < most_pieces → slice_index own k ≡ piece_length s g.row k)
    (raised : (k : ℕ) → k < most_pieces → slice_index longest k ≡ max (longest_at m k) (piece_length s g.row k)) where
  abbrev end : GateList
  end = joined m count g.number longest own

  abbrev all : List Gate
  all = gates ++ (g ∷ [])

  more : length all ≡ length gates + 1
  more = length-append gates (g ∷ [])

  old_gate : (i : ℕ) → i < length gates → gate_at all i ≡ gate_at gates i
  old_gate i l = get_or-append gates (g ∷ []) no_gate i l

  new_gate : (i : ℕ) → i ≡ length gates → gate_at all i ≡ g
  new_gate i e = rw e (get_or-append_seam gates g [] no_gate)

  by_place : (P : ℕ → Type 0) → ((i : ℕ) → i < length gates → P i) → P count → (i : ℕ) → i < length all → P i
  by_place P a b i l = elim (dec_lt i (length gates)) [ yes j ↦ a i j | no j ↦ let e : count ≡ i = omega (arith, more) in subst P e b ]

  pub holds_more : Holds s all end
  holds_more =
      record {
        count = omega (arith, more);
        few = omega (arith, more);
        numbers = by_place (λ i. number_at end i ≡ (gate_at all i).number)
            (λ i l. get_or-set_other m.numbers count i g.number 0 (λ e. omega arith) ∙ h.numbers i l ∙ ap (λ (x : Gate). x.number) (sym (old_gate i l)))
            (get_or-set_same m.numbers count g.number 0 (omega arith) ∙ ap (λ (x : Gate). x.number) (sym (new_gate count is)));
        lengths = λ i k l b. by_place (λ i. length_at end i k ≡ piece_length s (gate_at all i).row k)
            (λ i l. ap (λ (row : List ℕ). slice_index row k) (get_or-set_other m.lengths count i own [] (λ e. omega arith)) ∙ h.lengths i k l b
            ∙ ap (λ (x : Gate). piece_length s x.row k) (sym (old_gate i l)))
            (ap (λ (row : List ℕ). slice_index row k) (get_or-set_same m.lengths count own [] (omega arith)) ∙ written k b
            ∙ ap (λ (x : Gate). piece_length s x.row k) (sym (new_gate count is))) i l;
        longest = λ k b. raised k b ∙ rw (h.longest k b) (sym (largest-more s k gates g));
        apart = λ i j l b e. by_place (λ j. i < j → (gate_at all i).number ≡ (gate_at all j).number → ⊥)
            (λ j b l e. h.apart i j l b (ap (λ (x : Gate). x.number) (sym (old_gate i (omega arith))) ∙ e ∙ ap (λ (x : Gate). x.number) (old_gate j b)))
            (λ l e. new i (omega arith) (ap (λ (x : Gate). x.number) (sym (old_gate i (omega arith))) ∙ e ∙ ap (λ (x : Gate). x.number) (new_gate count is)))
            j b l e;
      }
