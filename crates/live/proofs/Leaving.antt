-- What memory holds where a gate was taken out: the others, the last in its place. Assumes nothing.
use Rattle.std.proofs.Common.{◌≡◌, ℕ, suc, ◌+◌, ◌<◌, ◌≤◌, max, List, [], ◌∷◌, length, get_or, slice_index, take, drop, drop-cons, add-one, sym, refl, ap, ◌∙◌}
use Rattle.std.proofs.Common.{subst, arith, set, length-set, length-take, get_or-take, get_or-set_same, get_or-set_other, eq-eqb}
use Rattle.std.proofs.lemmas.List.{drop_all}
use Rattle.std.proofs.lemmas.Bool.Decides.{nat_tests}
use native.Mathlib.Decide.{dec_lt}
use Rattle.refusals.specs.Limits.{most_pieces}
use Rattle.gates.specs.Gates.{Gate, without, piece_length, largest}
use Rattle.gates.specs.Same.{SameGates, gate_at}
use Rattle.gates.proofs.Same.{taken_out, same_back, same_taken, same-largest, same-without}
use Rattle.gates.proofs.Places.{without-absent, taken_length, taken_there, taken_else}
use Rattle.live.specs.declared.GateList.{GateList}
use Rattle.live.specs.Lists.{number_at, longest_at, length_at, Holds}
use Rattle.live.specs.Steps.{column_largest, lowered}

-- the first of the rows that are left, and none
pub column_next : (rows : List (List ℕ)) (k i : ℕ) → i < length rows
    → column_largest (drop i rows) k ≡ max (slice_index (get_or rows i []) k) (column_largest (drop (i + 1) rows) k)
unfolding column_largest
column_next rows k i h = rw add-one (ap (λ (l : List (List ℕ)). column_largest l k) (drop-cons rows i [] h))

pub column_end : (rows : List (List ℕ)) (k i : ℕ) → length rows ≤ i → column_largest (drop i rows) k ≡ 0
unfolding column_largest
column_end rows k i h = rw (drop_all i rows h) refl

-- A place and all others.
pub by_case : (P : ℕ → Type 0) (place : ℕ) {n : ℕ} → (place < n → P place) → ((i : ℕ) → (i ≡ place → ⊥) → P i) → (i : ℕ) → i < n → P i
by_case P place {n} a b i l =
    elim (dec_lt i place) [
      | yes p ↦ b i (λ e. omega arith)
      | no p ↦ elim (dec_lt place i) [ yes q ↦ b i (λ e. omega arith) | no q ↦ let e : place ≡ i = omega arith in subst P e (a (omega arith)) ]
    ]

-- Rows that have the same at a piece have the same largest length of it,
column_same : (a b : List (List ℕ)) (k : ℕ) → length a ≡ length b
    → ((i : ℕ) → i < length a → slice_index (get_or a i []) k ≡ slice_index (get_or b i []) k) → column_largest a k ≡ column_largest b k
unfolding column_largest
column_same [] [] k e h = refl
column_same [] (y ∷ b) k e h = absurd (omega arith)
column_same (x ∷ a) [] k e h = absurd (omega arith)
column_same (x ∷ a) (y ∷ b) k e h = omega (arith, h 0 (omega arith), column_same a b k (omega arith) (λ i l. h (suc i) (omega arith)))

-- so where a row is stored that has the same there.
pub column_stored : (rows : List (List ℕ)) (last place k : ℕ) (own : List ℕ) → slice_index own k ≡ slice_index (get_or rows place []) k
    → column_largest (take last (set rows place own)) k ≡ column_largest (take last rows) k
column_stored rows last place k own e =
    let stored = set rows place own in
    column_same (take last stored) (take last rows) k (simp (length-take, length-set) refl)
    (λ i l. let b : i < last = omega (arith, l, length-take last stored) in
    ap (λ (row : List ℕ). slice_index row k) (get_or-take last stored i [] b)
    ∙ at i (omega (arith, l, length-take last stored, length-set rows place own))
    ∙ ap (λ (row : List ℕ). slice_index row k) (sym (get_or-take last rows i [] b)))
  where
    at : (i : ℕ) → i < length rows → slice_index (get_or (set rows place own) i []) k ≡ slice_index (get_or rows i []) k
    at i l =
        by_case (λ (i : ℕ). slice_index (get_or (set rows place own) i []) k ≡ slice_index (get_or rows i []) k) place
        (λ q. ap (λ (row : List ℕ). slice_index row k) (get_or-set_same rows place own [] q) ∙ e)
        (λ i d. ap (λ (row : List ℕ). slice_index row k) (get_or-set_other rows place i own [] d)) i l

-- What gates have at a piece is the largest of their lengths.
column_is : (s : List ℕ) (k : ℕ) (rows : List (List ℕ)) (gates : List Gate) → length rows ≡ length gates
    → ((i : ℕ) → i < length gates → slice_index (get_or rows i []) k ≡ piece_length s (gate_at gates i).row k) → column_largest rows k ≡ largest s k gates
unfolding column_largest largest
column_is s k [] [] e h = refl
column_is s k [] (g ∷ gates) e h = absurd (omega arith)
column_is s k (row ∷ rows) [] e h = absurd (omega arith)
column_is s k (row ∷ rows) (g ∷ gates) e h =
    omega (arith, h 0 (omega arith), column_is s k rows gates (omega arith) (λ i l. h (suc i) (omega arith)))

lowered_is : (own top rest : ℕ) → top ≡ max own rest → lowered own top rest ≡ rest
lowered_is own top rest e = grind (arith, nat_tests)

-- That the last gate has the place of one that left, and the largest lengths were lowered to those of the gates that stay, the rows before the last.
pub record Left (m : GateList) (place last : ℕ) (m' : GateList) : Type 0 where
  pub less : m'.count ≡ last
  pub numbers : m'.numbers ≡ set m.numbers place (number_at m last)
  pub kept : (i : ℕ) → (i ≡ place → ⊥) → get_or m'.lengths i [] ≡ get_or m.lengths i []
  pub moved : (k : ℕ) → k < most_pieces → length_at m' place k ≡ length_at m last k
  pub sizes : (length m.numbers ≡ 128) × (length m'.lengths ≡ 128)
  pub lower : (k : ℕ) → k < most_pieces → longest_at m' k ≡ lowered (length_at m place k) (longest_at m k) (column_largest (take last m'.lengths) k)

-- One gate less: the last takes its place.
module _ (s : List ℕ) (gates : List Gate) (m : GateList) (place last : ℕ) (h : Holds s gates m) (there : place < length gates)
    (is : last + 1 ≡ length gates) where
  abbrev rest : List Gate
  rest = taken_out place gates

  less : length rest ≡ last
  less = omega (arith, taken_length place gates there)

  by_place : (P : ℕ → Type 0) → (place < last → P place) → ((i : ℕ) → i < last → (i ≡ place → ⊥) → P i) → (i : ℕ) → i < length rest → P i
  by_place P a b i l = by_case (λ i. i < length rest → P i) place (λ q h. a (omega (arith, less))) (λ i n h. b i (omega (arith, less)) n) i l l

  last_gate : place < last → gate_at rest place ≡ gate_at gates last
  last_gate l = taken_there place last gates is l

  kept_gate : (i : ℕ) → i < last → (i ≡ place → ⊥) → gate_at rest i ≡ gate_at gates i
  kept_gate i l n = taken_else place gates i (omega arith) n

  apart : (i j : ℕ) → i < j → j < length rest → (gate_at rest i).number ≡ (gate_at rest j).number → ⊥
  apart i j l b e =
      by_place (λ j. i < j → (gate_at rest i).number ≡ (gate_at rest j).number → ⊥)
      (λ b l e. h.apart i last (omega arith) (omega arith)
      (ap (λ (x : Gate). x.number) (sym (kept_gate i (omega arith) (λ q. omega arith))) ∙ e ∙ ap (λ (x : Gate). x.number) (last_gate b)))
      (λ j b n l e. by_place (λ i. i < j → (gate_at rest i).number ≡ (gate_at rest j).number → ⊥)
      (λ a l e. h.apart j last b (omega arith)
      (ap (λ (x : Gate). x.number) (sym (kept_gate j b n)) ∙ sym e ∙ ap (λ (x : Gate). x.number) (last_gate a)))
      (λ i a o l e. h.apart i j l (omega arith)
      (ap (λ (x : Gate). x.number) (sym (kept_gate i a o)) ∙ e ∙ ap (λ (x : Gate). x.number) (kept_gate j b n))) i (omega (arith, less)) l e) j b l e

  -- The gate that left is not among them.
  gone : (i : ℕ) → i < length rest → (gate_at rest i).number ≡ (gate_at gates place).number → ⊥
  gone =
      by_place (λ i. (gate_at rest i).number ≡ (gate_at gates place).number → ⊥)
      (λ l e. h.apart place last l (omega arith) (sym e ∙ ap (λ (x : Gate). x.number) (last_gate l)))
      (λ i l n e. let f = sym e ∙ ap (λ (x : Gate). x.number) (kept_gate i l n) in
      elim (dec_lt i place) [ yes q ↦ h.apart i place q there (sym f) | no q ↦ h.apart place i (omega arith) (omega arith) f ])

  pub same_rest : SameGates rest (without (gate_at gates place).number gates)
  unfolding without
  same_rest =
      let n = (gate_at gates place).number in
      same_back (subst (SameGates (without n gates)) (simp (eq-eqb n n refl) (without-absent n rest gone)) (same-without n (same_taken place gates there)))

  module _ (m' : GateList) (w : Left m place last m') where
    numbers : (i : ℕ) → i < length rest → number_at m' i ≡ (gate_at rest i).number
    numbers =
        by_place (λ i. number_at m' i ≡ (gate_at rest i).number)
        (λ l. ap (λ (xs : List ℕ). slice_index xs place) w.numbers
        ∙ get_or-set_same m.numbers place (number_at m last) 0 (omega (arith, h.few, w.sizes.0))
        ∙ h.numbers last (omega arith) ∙ ap (λ (x : Gate). x.number) (sym (last_gate l)))
        (λ i l n. ap (λ (xs : List ℕ). slice_index xs i) w.numbers ∙ get_or-set_other m.numbers place i (number_at m last) 0 n ∙ h.numbers i (omega arith)
        ∙ ap (λ (x : Gate). x.number) (sym (kept_gate i l n)))

    lengths : (i k : ℕ) → i < length rest → k < most_pieces → length_at m' i k ≡ piece_length s (gate_at rest i).row k
    lengths i k l b =
        by_place (λ i. length_at m' i k ≡ piece_length s (gate_at rest i).row k)
        (λ l. w.moved k b ∙ h.lengths last k (omega arith) b
        ∙ ap (λ (x : Gate). piece_length s x.row k) (sym (last_gate l)))
        (λ i l n. ap (λ (row : List ℕ). slice_index row k) (w.kept i n) ∙ h.lengths i k (omega arith) b
        ∙ ap (λ (x : Gate). piece_length s x.row k) (sym (kept_gate i l n))) i l

    longest : (k : ℕ) → k < most_pieces → longest_at m' k ≡ largest s k rest
    unfolding largest
    longest k b =
        let own : length_at m place k ≡ piece_length s (gate_at gates place).row k = h.lengths place k there b in
        let others : column_largest (take last m'.lengths) k ≡ largest s k rest =
        column_is s k (take last m'.lengths) rest (simp length-take (omega (arith, less, h.few, w.sizes.1)))
        (λ i l. ap (λ (row : List ℕ). slice_index row k) (get_or-take last m'.lengths i [] (omega (arith, less))) ∙ lengths i k l b) in
        w.lower k b ∙ rw (own, others, h.longest k b)
        (lowered_is (piece_length s (gate_at gates place).row k) (largest s k gates) (largest s k rest) (same-largest s k (same_taken place gates there)))

    pub holds_less : Holds s rest m'
    holds_less =
        record {
          count = w.less ∙ sym less;
          few = omega (arith, less, h.few);
          numbers = numbers;
          lengths = lengths;
          longest = longest;
          apart = apart;
        }
