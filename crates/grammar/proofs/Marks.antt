-- Null marks do not matter to reading: the pieces under kind bytes, and where reading them ends, are those under the kinds without marks. Assumes nothing.
use Rattle.std.specs.Prelude.{Err, Ok, Result, Option}
use mathlib.Core.Path.{◌≡◌, refl, ap, ◌∙◌}
use mathlib.Core.List.{List, [], ◌∷◌, map}
use Prim.Native.Nat.{ℕ, zero, suc, ◌-◌}
use native.Mathlib.Nat.{mod-mod}
use lib.Dec.{ltb}
use lib.ListN.{length, get_or}
use Rattle.refusals.specs.Limits.{most_pieces}
use Rattle.writing.specs.Choose.{choose}
use Rattle.kinds.specs.Kinds.{null_mark, unmarked, kind_of, kind_in}
use Rattle.kinds.specs.declared.Kind.{Kind}
use Rattle.specifiers.specs.Specifier.{specifier_at}
use Rattle.parsing.specs.declared.arguments.Index.{Index}
use Rattle.parsing.specs.Pieces.{start, argument_at, after_specifier, after_index, element_at, piece_at, Step}
use Rattle.parsing.specs.Listed.{Placed, and_rest, placed_from, placed, after_step, end_from, ended, Ended}
use Rattle.parsing.specs.declared.Cursor.{Cursor}
use Rattle.refusals.specs.declared.Refusal.{Refusal}

-- Kind bytes without their null marks.
abbrev pub without_marks : List ℕ → List ℕ
without_marks ks = map unmarked ks

pub as_many : (ks : List ℕ) → length (without_marks ks) ≡ length ks
as_many [] = refl
as_many (k ∷ ks) = ap suc (as_many ks)

same_kind : (ks : List ℕ) (i : ℕ) → kind_in (get_or (without_marks ks) i 0) ≡ kind_in (get_or ks i 0)
same_kind [] i = refl
same_kind (k ∷ ks) zero = ap kind_of (mod-mod k null_mark)
same_kind (k ∷ ks) (suc i) = same_kind ks i

module _ (s ks : List ℕ) where
  same-element : (x : Result Index Refusal) → after_index s (without_marks ks) x ≡ after_index s ks x
  same-element (Ok x) =
      ap (λ (k : Option Kind). after_specifier x.argument x.count (specifier_at s x.next x.argument k)) (same_kind ks (x.argument - 1))
  same-element (Err n) = refl

  same_step : (c : Cursor) → piece_at s (without_marks ks) c ≡ piece_at s ks c
  unfolding piece_at element_at
  same_step c = simp (as_many ks, same-element (argument_at s (length ks) c))

  same-placed : (n : ℕ) (c : Cursor) → placed_from n (piece_at s (without_marks ks)) (length s) c ≡ placed_from n (piece_at s ks) (length s) c
  unfolding placed_from
  same-placed zero c = refl
  same-placed (suc n) c =
      ap (λ (t : Step). choose (ltb c.at (length s)) (λ _. and_rest t c (λ m. placed_from n (piece_at s (without_marks ks)) (length s) m)) (λ _. []))
      (same_step c)
      ∙ go (piece_at s ks c) (λ m. same-placed n m)
    where
      go : (t : Step) → ((m : Cursor) → placed_from n (piece_at s (without_marks ks)) (length s) m ≡ placed_from n (piece_at s ks) (length s) m)
          → choose (ltb c.at (length s)) (λ _. and_rest t c (λ m. placed_from n (piece_at s (without_marks ks)) (length s) m)) (λ _. [])
          ≡ choose (ltb c.at (length s)) (λ _. and_rest t c (λ m. placed_from n (piece_at s ks) (length s) m)) (λ _. [])
      go (Ok (p, m)) ih =
          ap (λ (l : List Placed). choose (ltb c.at (length s)) (λ _. record { piece = p; from = c.at; to = m.at } ∷ l) (λ _. [])) (ih m)
      go (Err k) ih = refl

  same_end : (n : ℕ) (c : Cursor) → end_from n (piece_at s (without_marks ks)) (length s) c ≡ end_from n (piece_at s ks) (length s) c
  unfolding end_from
  same_end zero c = refl
  same_end (suc n) c =
      ap (λ (t : Step). choose (ltb c.at (length s)) (λ _. after_step t c (λ m. end_from n (piece_at s (without_marks ks)) (length s) m)) (λ _. Ok tt))
      (same_step c)
      ∙ go (piece_at s ks c) (λ m. same_end n m)
    where
      go : (t : Step) → ((m : Cursor) → end_from n (piece_at s (without_marks ks)) (length s) m ≡ end_from n (piece_at s ks) (length s) m)
          → choose (ltb c.at (length s)) (λ _. after_step t c (λ m. end_from n (piece_at s (without_marks ks)) (length s) m)) (λ _. Ok tt)
          ≡ choose (ltb c.at (length s)) (λ _. after_step t c (λ m. end_from n (piece_at s ks) (length s) m)) (λ _. Ok tt)
      go (Ok (p, m)) ih = ap (λ (e : Ended). choose (ltb c.at (length s)) (λ _. e) (λ _. Ok tt)) (ih m)
      go (Err k) ih = refl

  -- The pieces, and where reading them ends.
  pub unmarked-placed : placed s (without_marks ks) ≡ placed s ks
  unfolding placed
  unmarked-placed = same-placed most_pieces start

  pub unmarked-ended : ended s (without_marks ks) ≡ ended s ks
  unfolding ended
  unmarked-ended = same_end most_pieces start
