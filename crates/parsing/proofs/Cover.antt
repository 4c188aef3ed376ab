-- The pieces of a format that is read to its end cover it from the first byte to the last; they are at most 512, and no more than bytes. Assumes nothing.
use Rattle.std.specs.Prelude.{Err, Ok}
use mathlib.Core.Path.{◌≡◌, refl, sym, ap, ◌∙◌}
use mathlib.Core.Bool.{true, ◌&&◌}
use mathlib.Core.List.{List, [], ◌∷◌, ◌++◌}
use Prim.Native.Nat.{ℕ, zero, suc, ◌+◌, ◌≤◌, ◌<◌, max}
use native.Mathlib.Decide.{dec_lt}
use native.Mathlib.Nat.{max_comm}
use native.Mathlib.Omega.{arith}
use lib.Dec.{leb}
use lib.ListN.{length}
use Rattle.refusals.specs.Limits.{most_kinds, most_pieces}
use Rattle.utf8.specs.Utf8.{well_formed, well_formed_from}
use Rattle.parsing.specs.Pieces.{start, piece_at}
use Rattle.parsing.specs.Listed.{Placed, Ended, placed_from, end_from, placed, ended}
use Rattle.kinds.specs.Kinds.{all_known}
use Rattle.parsing.specs.Check.{argument_of, largest_of, checked}
use Rattle.parsing.specs.Covers.{Covers}
use Rattle.parsing.specs.declared.Cursor.{Cursor}
use Rattle.parsing.proofs.Progress.{advanced}
use Rattle.parsing.proofs.Iteration.{placed_found, placed-refused, placed-none, placed_past, placed-few, end_found, end_refused, end-many, end_past}
use Rattle.parsing.specs.Pieces.{Step}
use Rattle.refusals.specs.Numbers.{stop}
use Rattle.refusals.specs.declared.Refusal.TheVariants.{ManyPieces}

module _ (s ks : List ℕ) where
  abbrev Covered : ℕ → Cursor → Type 0
  Covered n c =
      c.at ≤ length s → end_from n (piece_at s ks) (length s) c ≡ Ok tt → Covers c.at (length s) (placed_from n (piece_at s ks) (length s) c)

  cover-from : (n : ℕ) (c : Cursor) → Covered n c
  cover-from zero c h e =
      elim (dec_lt c.at (length s))
      [ yes i ↦ absurd (never (sym (end-many (piece_at s ks) (length s) c i) ∙ e)) | no m ↦ rw (placed-none (piece_at s ks) (length s) c) (omega arith) ]
    where
      never : ◌≡◌ {A = Ended} (Err (stop ManyPieces c.at)) (Ok tt) → ⊥
      never q = let z : ◌≡◌ {A = ℕ} 0 1 = cc in omega arith
  cover-from (suc n) c h e =
      elim (dec_lt c.at (length s))
      [ yes i ↦ go (piece_at s ks c) refl i (λ m. cover-from n m) | no m ↦ rw (placed_past (piece_at s ks) (length s) (suc n) c (omega arith)) (omega arith) ]
    where
      go : (t : Step) → piece_at s ks c ≡ t → c.at < length s → ((m : Cursor) → Covered n m)
          → Covers c.at (length s) (placed_from (suc n) (piece_at s ks) (length s) c)
      go (Ok (p, m)) q i ih =
          let a = advanced s ks c p m i q in
          rw (placed_found (piece_at s ks) (length s) c i n p m q)
          (refl, a.forward, ih m a.inside (sym (end_found (piece_at s ks) (length s) c i n p m q) ∙ e))
      go (Err k) q i ih =
          let f = sym (end_refused (piece_at s ks) (length s) c i n k q) ∙ e in
          absurd (let z : ◌≡◌ {A = ℕ} 0 1 = cc in omega arith)

  pub cover : ended s ks ≡ Ok tt → Covers 0 (length s) (placed s ks)
  unfolding ended placed
  cover e = cover-from most_pieces start (omega arith) e

  bytes-from : (n : ℕ) (c : Cursor) → c.at ≤ length s → length (placed_from n (piece_at s ks) (length s) c) + c.at ≤ length s
  bytes-from zero c h = rw (placed-none (piece_at s ks) (length s) c) (omega arith)
  bytes-from (suc n) c h =
      elim (dec_lt c.at (length s))
      [ yes i ↦ go (piece_at s ks c) refl i (λ m. bytes-from n m) | no m ↦ rw (placed_past (piece_at s ks) (length s) (suc n) c (omega arith)) (omega arith) ]
    where
      go : (t : Step) → piece_at s ks c ≡ t → c.at < length s
          → ((m : Cursor) → m.at ≤ length s → length (placed_from n (piece_at s ks) (length s) m) + m.at ≤ length s)
          → length (placed_from (suc n) (piece_at s ks) (length s) c) + c.at ≤ length s
      go (Ok (p, m)) q i ih =
          let a = advanced s ks c p m i q in
          let k = ih m a.inside in
          rw (placed_found (piece_at s ks) (length s) c i n p m q) (omega arith)
      go (Err k) q i ih = rw (placed-refused (piece_at s ks) (length s) c i n k q) (omega arith)

  pub few : (length (placed s ks) ≤ most_pieces) × (length (placed s ks) ≤ length s)
  unfolding placed
  few = let h = bytes-from most_pieces start (omega arith) in (placed-few (piece_at s ks) (length s) most_pieces start, omega arith)

-- The empty format has no pieces, is read to its end, and is accepted with any kinds.
module _ (ks : List ℕ) where
  pub empty : placed [] ks ≡ []
  unfolding placed
  empty = placed_past (piece_at [] ks) 0 most_pieces start (omega arith)

  pub empty_ended : ended [] ks ≡ Ok tt
  unfolding ended
  empty_ended = end_past (piece_at [] ks) 0 most_pieces start (omega arith)

  pub empty_checked : (leb (length ks) most_kinds && all_known ks) ≡ true → checked [] ks ≡ Ok (record { pieces = 0; largest = 0 })
  unfolding checked well_formed well_formed_from largest_of
  empty_checked e = simp (e, empty_ended, empty)

-- the largest argument of some pieces and one more
pub largest-one : (ps : List Placed) (p : Placed) → largest_of (ps ++ (p ∷ [])) ≡ max (largest_of ps) (argument_of p.piece)
unfolding largest_of
largest-one [] p = max_comm (argument_of p.piece) 0
largest-one (q ∷ ps) p = ap (max (argument_of q.piece)) (largest-one ps p) ∙ regrouped (argument_of q.piece) (largest_of ps) (argument_of p.piece)
  where
    regrouped : (a b c : ℕ) → max a (max b c) ≡ max (max a b) c
    regrouped a b c = omega arith
