-- Where reading stands behind k pieces of a format: what is left of its pieces, and where it ends. Assumes nothing.
use Rattle.std.specs.Prelude.{Err, Ok}
use mathlib.Core.Path.{◌≡◌, refl, sym, ap, ◌∙◌}
use mathlib.Core.List.{List, [], ◌∷◌, ◌++◌}
use Prim.Native.Nat.{ℕ, suc, ◌+◌, ◌-◌, ◌≤◌, ◌<◌}
use native.Mathlib.Omega.{arith}
use lib.ListN.{length, take, drop}
use Rattle.refusals.specs.Limits.{most_pieces}
use Rattle.parsing.specs.Pieces.{start, piece_at}
use Rattle.parsing.specs.Listed.{placed_from, placed, end_from, ended}
use Rattle.parsing.specs.declared.Piece.{Piece}
use Rattle.parsing.specs.declared.Cursor.{Cursor}
use Rattle.parsing.proofs.Iteration.{placed_found, placed-refused, placed-none, placed_past, end_found, end_refused, end-many, end_past}
use Rattle.outcomes.proofs.Joined.{next-below, next_rest, next_taken, none_left}
use Rattle.refusals.specs.Numbers.{stop}
use Rattle.refusals.specs.declared.Refusal.{Refusal}
use Rattle.refusals.specs.declared.Refusal.TheVariants.{ManyPieces}

pub record Reached (s ks : List ℕ) (k : ℕ) (c : Cursor) : Type 0 where
  few : k ≤ most_pieces
  pub inside : k ≤ length (placed s ks)
  rest : drop k (placed s ks) ≡ placed_from (most_pieces - k) (piece_at s ks) (length s) c
  end : end_from (most_pieces - k) (piece_at s ks) (length s) c ≡ ended s ks

pub reached_start : {s ks : List ℕ} {c : Cursor} → c ≡ start → Reached s ks 0 c
unfolding ended placed
reached_start e = rw e (record { few = omega arith; inside = omega arith; rest = refl; end = refl })

module _ {s ks : List ℕ} {k : ℕ} {c : Cursor} (at : Reached s ks k c) where
  -- a piece begins
  module _ (inside : c.at < length s) where
    -- and is one too many
    pub reached_full : most_pieces ≤ k → (ended s ks ≡ Err (stop ManyPieces c.at)) × (take k (placed s ks) ≡ placed s ks)
    reached_full h =
        let z : most_pieces - k ≡ 0 = omega arith in
        let none = at.rest ∙ ap (λ (n : ℕ). placed_from n (piece_at s ks) (length s) c) z ∙ placed-none (piece_at s ks) (length s) c in (
          sym at.end ∙ ap (λ (n : ℕ). end_from n (piece_at s ks) (length s) c) z ∙ end-many (piece_at s ks) (length s) c inside,
          none_left k (placed s ks) none,
        )

    module _ (room : k < most_pieces) where
      left : most_pieces - k ≡ suc (most_pieces - (k + 1))
      left = omega arith

      end_left : end_from (suc (most_pieces - (k + 1))) (piece_at s ks) (length s) c ≡ ended s ks
      end_left = sym (ap (λ (n : ℕ). end_from n (piece_at s ks) (length s) c) left) ∙ at.end

      rest_left : drop k (placed s ks) ≡ placed_from (suc (most_pieces - (k + 1))) (piece_at s ks) (length s) c
      rest_left = at.rest ∙ ap (λ (m : ℕ). placed_from m (piece_at s ks) (length s) c) left

      pub reached_refused : {refusal : Refusal} → piece_at s ks c ≡ Err refusal → (ended s ks ≡ Err (stop refusal c.at)) × (take k (placed s ks) ≡ placed s ks)
      reached_refused {refusal} e = (
        sym end_left ∙ end_refused (piece_at s ks) (length s) c inside (most_pieces - (k + 1)) refusal e,
        none_left k (placed s ks) (rest_left ∙ placed-refused (piece_at s ks) (length s) c inside (most_pieces - (k + 1)) refusal e),
      )

      module _ {p : Piece} {n : Cursor} (e : piece_at s ks c ≡ Ok (p, n)) where
        next-piece : drop k (placed s ks)
            ≡ record { piece = p; from = c.at; to = n.at } ∷ placed_from (most_pieces - (k + 1)) (piece_at s ks) (length s) n
        next-piece = rest_left ∙ placed_found (piece_at s ks) (length s) c inside (most_pieces - (k + 1)) p n e

        one_more : k + 1 ≡ suc k
        one_more = omega arith

        pub next-inside : k < length (placed s ks)
        next-inside = next-below k (placed s ks) _ _ next-piece

        pub taken_next : take (k + 1) (placed s ks) ≡ take k (placed s ks) ++ (record { piece = p; from = c.at; to = n.at } ∷ [])
        taken_next = ap (λ (j : ℕ). take j (placed s ks)) one_more ∙ next_taken k (placed s ks) _ _ next-piece

        pub reached_next : Reached s ks (k + 1) n
        reached_next = record {
          few = omega arith;
          inside = omega (arith, next-inside);
          rest = ap (λ (j : ℕ). drop j (placed s ks)) one_more ∙ next_rest k (placed s ks) _ _ next-piece;
          end = sym (end_found (piece_at s ks) (length s) c inside (most_pieces - (k + 1)) p n e) ∙ end_left;
        }

  -- behind the format's last byte
  pub reached_end : length s ≤ c.at → (ended s ks ≡ Ok tt) × (take k (placed s ks) ≡ placed s ks)
  reached_end behind = (
    sym at.end ∙ end_past (piece_at s ks) (length s) (most_pieces - k) c behind,
    none_left k (placed s ks) (at.rest ∙ placed_past (piece_at s ks) (length s) (most_pieces - k) c behind),
  )
