-- The lengths of pieces, from the ends that measuring leaves. Assumes nothing.
use Rattle.std.proofs.Common.{◌≡◌, ℕ, zero, suc, ◌%◌, ◌^◌, ◌<◌, ◌≤◌, List, [], map, length, get_or, take, Ok, Err, sym, refl, ap, ◌∙◌, zero-add, arith}
use Rattle.std.proofs.Common.{length-take, get_or-take, le-ltb, lt-ltb}
use native.Mathlib.Decide.{dec_lt}
use lib.ListN.{get_or-append, get_or-map, get_or-eq_default, length-map}
use Rattle.refusals.specs.Limits.{most_format, most_pieces}
use Rattle.writing.specs.Laid.{laid}
use Rattle.parsing.specs.Listed.{placed}
use Rattle.parsing.proofs.Cover.{few}
use Rattle.rows.specs.Row.{kinds_of}
use Rattle.rows.proofs.Rows.{AllBytes}
use Rattle.outcomes.specs.Printed.{Outcome, joined, texts, ends_from, measured}
use Rattle.outcomes.specs.Demand.{end_before}
use Rattle.outcomes.specs.declared.Measured.{Measured}
use Rattle.refusals.specs.Numbers.{stop}
use Rattle.refusals.specs.declared.Refusal.TheVariants.{LongFormat}
use Rattle.outcomes.proofs.Accepted.{accepted}
use Rattle.outcomes.proofs.Joined.{ends_length, nth_end, between}
use Rattle.outcomes.proofs.Texts.{texts-length}
use Rattle.printing.specs.Tallies.{laid_ends}
use Rattle.printing.specs.Stages.{Staged}
use Rattle.printing.proofs.Staged.{all-texts}
use Rattle.bounds.proofs.Bounds.{text-short}
use Rattle.gates.specs.Gates.{piece_length}
use Rattle.live.specs.Steps.{length_in}

accepted_short : (s row : List ℕ) (m : Measured) → measured s row ≡ Ok m → length s ≤ most_format
unfolding measured
accepted_short s row m e =
    elim (dec_lt most_format (length s)) [
      | yes h ↦
          let f : ◌≡◌ {A = Outcome} (Err (stop LongFormat 0)) (Ok m) = simp (lt-ltb most_format (length s) h) at e in
          absurd (let z : ◌≡◌ {A = ℕ} 0 1 = cc in omega arith)
      | no h ↦ omega arith
    ]

-- The k-th of the ends, as they are left over e, which has room for all of them.
nth_low : (ts : List (List ℕ)) (e : List ℕ) (k : ℕ) → length ts ≤ length e → k < length ts
    → get_or (laid_ends ts e) k 0 ≡ length (joined (take (suc k) ts)) % 4294967296
unfolding laid
nth_low ts e k h j =
    let low = map (λ n. n % 4294967296) (ends_from 0 ts) in
    let in_low : k < length (take (length e) low) =
    omega (arith, length-take (length e) low, length-map (ends_from 0 ts) (λ n. n % 4294967296), ends_length 0 ts) in
    get_or-append (take (length e) low) _ 0 k in_low ∙ get_or-take (length e) low k 0 (omega arith)
    ∙ get_or-map (λ n. n % 4294967296) (ends_from 0 ts) k 0
    ∙ ap (λ (n : ℕ). n % 4294967296) (nth_end 0 ts k j ∙ zero-add (length (joined (take (suc k) ts))))

module _ (s row : List ℕ) (found : Measured) (a : measured s row ≡ Ok found) (bytes : AllBytes row) {d e out ends : List ℕ} (room : length e ≡ most_pieces)
    (w : Staged s row d e out ends) where
  abbrev ts : List (List ℕ)
  ts = texts s row

  as_many : length ts ≡ found.pieces
  unfolding texts
  as_many = texts-length s row (placed s (kinds_of row)) ∙ sym (accepted s row found a).pieces

  fit : length ts ≤ length e
  fit = omega (arith, as_many, (accepted s row found a).pieces, few s (kinds_of row))

  end_of : (k : ℕ) → k < found.pieces → get_or ends k 0 ≡ length (joined (take (suc k) ts)) % 4294967296
  end_of k h =
      ap (λ (l : List ℕ). get_or l k 0) (w.slots ∙ ap (λ (l : List (List ℕ)). laid_ends l e) (all-texts s row a w))
      ∙ nth_low ts e k fit (omega (arith, as_many))

  small : (k : ℕ) → piece_length s row k < 2 ^ 32
  small k = text-short s row (accepted_short s row found a) (accepted s row found a).kept bytes k

  before_of : (k : ℕ) → k < found.pieces → end_before ends k ≡ length (joined (take k ts)) % 4294967296
  unfolding joined
  before_of zero h = refl
  before_of (suc k) h = end_of k (omega arith)

  pub length-is : (k : ℕ) → length_in ends found.pieces k ≡ piece_length s row k
  length-is k =
      elim (dec_lt k found.pieces) [
        | yes h ↦ simp (lt-ltb k found.pieces h) (omega (arith, end_of k h, before_of k h, between ts k (omega (arith, as_many)), small k))
        | no h ↦ simp (le-ltb k found.pieces (omega arith)) (sym (ap length (get_or-eq_default ts [] (omega (arith, as_many)))))
      ]
