-- A pass over the pieces: what holds behind k of them, and what is left behind all. Assumes nothing.
use Rattle.std.specs.Prelude.{Err, Ok}
use mathlib.Core.Path.{◌≡◌, refl, sym, ap, subst, ◌∙◌}
use mathlib.Core.Bool.{Bool, true, false}
use mathlib.Core.List.{List, [], ◌∷◌, ◌++◌}
use Prim.Native.Nat.{ℕ, ◌+◌, ◌<◌, max}
use native.Mathlib.Omega.{arith}
use lib.ListN.{length, take}
use lib.Seq.{length-take-le}
use Rattle.refusals.specs.Limits.{most_pieces}
use Rattle.writing.specs.Choose.{choose}
use Rattle.writing.proofs.Choose.{by_test}
use Rattle.parsing.specs.Pieces.{start, piece_at}
use Rattle.parsing.specs.Check.{argument_of, largest_of}
use Rattle.parsing.specs.Covers.{PieceIn}
use Rattle.parsing.specs.Listed.{Placed, placed, ended, Ended}
use Rattle.parsing.specs.declared.Piece.{Piece}
use Rattle.parsing.specs.declared.Cursor.{Cursor}
use Rattle.parsing.proofs.Cover.{largest-one}
use Rattle.parsing.proofs.Sound.{sound}
use Rattle.elements.specs.PieceTexts.{piece_text}
use Rattle.elements.specs.Ready.{Ready}
use Rattle.printing.specs.Tallies.{counted, tallied, with_end, laid_behind, shown_texts, laid_texts, laid_ends, TallyBelow, Tally}
use Rattle.printing.specs.Passes.{walk_texts, pass_tally, Passed, Walk}
use Rattle.printing.proofs.Reached.{Reached, reached_start, next-inside, taken_next, reached_next}
use Rattle.printing.proofs.Counts.{tallied-one}
use Rattle.printing.proofs.Fitting.{texts-none, ends_none}
use Rattle.printing.proofs.Next.{bytes_next, slots_next}

-- The texts of pieces, in a pass that prints; none in one that only reads.
abbrev pass_texts : Bool → List ℕ → List ℕ → List Placed → List (List ℕ)
pass_texts prints s row ps = choose prints (λ _. shown_texts s row ps) (λ _. [])

-- What holds behind k pieces of a pass: what was added up, and the texts and ends that stand over the starts of d and e.
pub record Laying (s row ks : List ℕ) (prints : Bool) (d e : List ℕ) (k : ℕ) (c : Cursor) (t : Tally) (m : ℕ) (out ends : List ℕ) : Type 0 where
  pub reached : Reached s ks k c
  largest : m ≡ largest_of (take k (placed s ks))
  pub below : TallyBelow k t
  tally : t ≡ pass_tally prints s row (take k (placed s ks))
  bytes : out ≡ laid_texts (pass_texts prints s row (take k (placed s ks))) d
  slots : ends ≡ laid_ends (pass_texts prints s row (take k (placed s ks))) e
  pub as_long : length out ≡ length d
  pub as_many : length ends ≡ length e

-- a piece that is found can be printed
pub piece_ready : {s row ks : List ℕ} {n : Cursor} {p : Piece} → Passed s row ks → (c : Cursor) → c.at < length s → piece_at s ks c ≡ Ok (p, n)
    → Ready s row p
piece_ready {s} {row} {ks} {n} {p} passed c h f = record {
  short = passed.short;
  kept = passed.kept;
  inside = subst (λ (l : List ℕ). PieceIn s l p) passed.kinds (sound s ks c p n h f);
}

below_more : (k : ℕ) (t : Tally) → TallyBelow k t → TallyBelow (k + 1) t
below_more k (Ok n) h = omega arith
below_more k (Err t) h = tt

module _ {s row ks : List ℕ} {prints : Bool} {d e : List ℕ} where
  pub laying_start : {c : Cursor} → c ≡ start → Laying s row ks prints d e 0 c (Ok 0) 0 d e
  unfolding shown_texts tallied largest_of
  laying_start q = record {
    reached = reached_start q;
    largest = refl;
    below = omega arith;
    tally = by_test (λ (x : Tally). Ok 0 ≡ x) prints _ _ (λ _. refl) (λ _. refl);
    bytes = by_test (λ (ts : List (List ℕ)). d ≡ laid_texts ts d) prints _ _ (λ _. texts-none d) (λ _. texts-none d);
    slots = by_test (λ (ts : List (List ℕ)). e ≡ laid_ends ts e) prints _ _ (λ _. ends_none e) (λ _. ends_none e);
    as_long = refl;
    as_many = refl;
  }

  -- the same under other names
  pub laying_as : {k : ℕ} {c : Cursor} {t t' : Tally} {m m' : ℕ} {out out' ends ends' : List ℕ} → t' ≡ t → m' ≡ m → out' ≡ out → ends' ≡ ends
      → Laying s row ks prints d e k c t m out ends → Laying s row ks prints d e k c t' m' out' ends'
  laying_as p q o r w = rw (p, q, o, r) w

  module _ {k : ℕ} {c : Cursor} {t : Tally} {m : ℕ} {out ends : List ℕ} (w : Laying s row ks prints d e k c t m out ends) where
    -- one piece more
    module _ (inside : c.at < length s) (room : k < most_pieces) {p : Piece} {n : Cursor} (f : piece_at s ks c ≡ Ok (p, n)) where
      one : Placed
      one = record { piece = p; from = c.at; to = n.at }

      taken : take (k + 1) (placed s ks) ≡ take k (placed s ks) ++ (one ∷ [])
      unfolding one
      taken = taken_next w.reached inside room f

      count : length (take k (placed s ks)) ≡ k
      count = length-take-le k (placed s ks) (omega (arith, next-inside w.reached inside room f))

      largest-next : max m (argument_of p) ≡ largest_of (take (k + 1) (placed s ks))
      unfolding one
      largest-next = ap (λ (j : ℕ). max j (argument_of p)) w.largest ∙ sym (ap largest_of taken ∙ largest-one (take k (placed s ks)) one)

      -- that is only read
      pub laying_read : prints ≡ false → Laying s row ks prints d e (k + 1) n t (max m (argument_of p)) out ends
      laying_read off =
          let zero : (ps : List Placed) → pass_tally prints s row ps ≡ Ok 0 = λ ps. ap (λ (b : Bool). pass_tally b s row ps) off in
          let none : (ps : List Placed) → pass_texts prints s row ps ≡ [] = λ ps. ap (λ (b : Bool). pass_texts b s row ps) off in
          let same = none (take k (placed s ks)) ∙ sym (none (take (k + 1) (placed s ks))) in
          record {
            reached = reached_next w.reached inside room f;
            largest = largest-next;
            below = below_more k t w.below;
            tally = w.tally ∙ zero (take k (placed s ks)) ∙ sym (zero (take (k + 1) (placed s ks)));
            bytes = w.bytes ∙ ap (λ (ts : List (List ℕ)). laid_texts ts d) same;
            slots = w.slots ∙ ap (λ (ts : List (List ℕ)). laid_ends ts e) same;
            as_long = w.as_long;
            as_many = w.as_many;
          }

      -- that is printed
      module _ (on : prints ≡ true) {r : Tally} {out' ends' : List ℕ} (counts : r ≡ counted s row p c.at t) (below : TallyBelow (k + 1) r)
          (bytes : out' ≡ laid_behind t out (piece_text s row p)) (slot : ends' ≡ with_end k r ends) where
        shown : (ps : List Placed) → pass_texts prints s row ps ≡ shown_texts s row ps
        shown ps = ap (λ (b : Bool). pass_texts b s row ps) on

        added_up : (ps : List Placed) → pass_tally prints s row ps ≡ tallied s row (Ok 0) ps
        added_up ps = ap (λ (b : Bool). pass_tally b s row ps) on

        pub laying_printed : length out' ≡ length out → length ends' ≡ length ends
            → Laying s row ks prints d e (k + 1) n r (max m (argument_of p)) out' ends'
        unfolding one
        laying_printed long many =
            let before = take k (placed s ks) in
            let is = shown before in
            let total = w.tally ∙ added_up before in
            let b = bytes_next s row before one _ is total d w.bytes w.as_long bytes in
            let z = slots_next s row before one _ is total e count w.slots w.as_many counts slot in
            let texts = ap (shown_texts s row) (sym taken) ∙ sym (shown (take (k + 1) (placed s ks))) in
            record {
              reached = reached_next w.reached inside room f;
              largest = largest-next;
              below = below;
              tally =
                  counts ∙ ap (counted s row p c.at) total
                  ∙ sym (added_up (take (k + 1) (placed s ks)) ∙ ap (tallied s row (Ok 0)) taken ∙ tallied-one s row (Ok 0) before one);
              bytes = b ∙ ap (λ (ts : List (List ℕ)). laid_texts ts d) texts;
              slots = z ∙ ap (λ (ts : List (List ℕ)). laid_ends ts e) texts;
              as_long = long ∙ w.as_long;
              as_many = many ∙ w.as_many;
            }

    -- behind the last piece, at a refusal or the end: what is answered and what is left
    module _ (all : take k (placed s ks) ≡ placed s ks) where
      pub walk_answer : {x : Ended} → x ≡ ended s ks → Walk s row ks prints (record { end = x; tally = t; pieces = k; largest = m })
      walk_answer end = record {
        end = end;
        tally = w.tally ∙ ap (pass_tally prints s row) all;
        pieces = sym (length-take-le k (placed s ks) w.reached.inside) ∙ ap length all;
        largest = w.largest ∙ ap largest_of all;
      }

      pub walk_bytes : out ≡ laid_texts (walk_texts prints s row ks) d
      walk_bytes = w.bytes ∙ ap (λ (ps : List Placed). laid_texts (pass_texts prints s row ps) d) all

      pub walk_slots : ends ≡ laid_ends (walk_texts prints s row ks) e
      walk_slots = w.slots ∙ ap (λ (ps : List Placed). laid_ends (pass_texts prints s row ps) e) all
