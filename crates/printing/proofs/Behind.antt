-- A text behind those that stand at a slice's start already: what a writer leaves that was lent the rest of the slice. Assumes nothing.
use Rattle.std.specs.Prelude.{Err, Ok}
use mathlib.Core.Path.{◌≡◌, refl, sym, ap, ◌∙◌}
use mathlib.Core.List.{List, [], ◌∷◌, ◌++◌}
use Prim.Native.Nat.{ℕ, ◌+◌, ◌-◌, ◌≤◌}
use native.Mathlib.Omega.{arith}
use lib.Dec.{leb}
use lib.ListN.{length, take, drop, length-append, length-drop, take-append-drop}
use lib.Seq.{take_at, drop-append-add, drop-drop, length-take-le}
use borrow.Author.Tests.{leb-true, leb-false}
use borrow.Rule.Slice.PartMut.{put_mid, mid_of}
use Rattle.writing.specs.Laid.{laid}
use Rattle.writing.specs.Writers.{laid_if_room}
use Rattle.writing.proofs.Choose.{by_test}
use Rattle.writing.proofs.Laid.{laid_none, laid-room, laid_next, lent_back}
use Rattle.printing.specs.Tallies.{behind, laid_behind, Tally}

-- its own first bytes
pub laid_self : (d : List ℕ) (n : ℕ) → n ≤ length d → laid d (take n d) ≡ d
unfolding laid
laid_self d n h = rw (length-take-le n d h) (take-append-drop n d)

-- behind a text u that stands over the start of d already
pub laid-behind : (d u t D : List ℕ) (n : ℕ) → D ≡ laid d u → length u ≡ n → laid D (take n D ++ t) ≡ laid d (u ++ t)
unfolding laid
laid-behind d u t D n p e =
    let k : take n D ≡ u = ap (take n) p ∙ take_at u (drop (length u) d) n e in
    let r : drop (length u + length t) D ≡ drop (length u + length t) d =
    ap (drop (length u + length t)) p ∙ drop-append-add u (drop (length u) d) (length t) ∙ drop-drop (length t) (length u) d in
    ap (λ (l : List ℕ). (l ++ t) ++ drop (length (l ++ t)) D) k
    ∙ ap (λ (m : ℕ). (u ++ t) ++ drop m D) (length-append u t)
    ∙ ap (λ (l : List ℕ). (u ++ t) ++ l) r
    ∙ ap (λ (m : ℕ). (u ++ t) ++ drop m d) (sym (length-append u t))

-- a text that has room only where it is empty
unlaid : (d t : List ℕ) → (length t ≤ length d → length t ≡ 0) → laid_if_room d t ≡ d
unfolding laid_if_room
unlaid d [] h = by_test (λ (l : List ℕ). l ≡ d) (leb 0 (length d)) _ _ (λ _. laid_none d) (λ _. refl)
unlaid d (b ∷ t) h =
    by_test (λ (l : List ℕ). l ≡ d) (leb (length (b ∷ t)) (length d)) _ _
    (λ q. absurd (let k : length (b ∷ t) ≡ 0 = h (leb-true (length (b ∷ t)) (length d) q) in omega arith)) (λ _. refl)

-- The rest of d from a place on was lent to a writer of t, which left Y.
module _ (d t Y : List ℕ) (from : ℕ) (q : Y ≡ laid_if_room (mid_of from (length d - from) d) t) where
  lent_length : length (mid_of from (length d - from) d) ≡ length d - from
  lent_length = length-take-le (length d - from) (drop from d) (omega (arith, length-drop from d))

  put_none : (length t ≤ length d - from → length t ≡ 0) → put_mid from (length d - from) d Y ≡ d
  unfolding laid
  put_none h =
      let same = unlaid (mid_of from (length d - from) d) t (λ k. h (omega (arith, lent_length))) in
      ap (put_mid from (length d - from) d) (q ∙ same) ∙ lent_back d [] from ∙ take-append-drop from d

  put_room : from + length t ≤ length d → put_mid from (length d - from) d Y ≡ laid d (take from d ++ t)
  put_room h =
      let le : from ≤ length d = omega arith in
      let y = q ∙ laid-room (mid_of from (length d - from) d) t (omega (arith, lent_length)) in
      laid_next d (take from d) t d Y from (sym (laid_self d from le)) (length-take-le from d le) y

  -- behind what was added up
  pub put_behind : (x : Tally) → from ≡ behind x (length d) → put_mid from (length d - from) d Y ≡ laid_behind x d t
  put_behind (Ok n) e =
      by_test (λ (l : List ℕ). put_mid from (length d - from) d Y ≡ l) (leb (n + length t) (length d)) _ _
      (λ b.
      let h = leb-true (n + length t) (length d) b in
      let f : from ≡ n = omega arith in
      put_room (omega arith) ∙ ap (λ (m : ℕ). laid d (take m d ++ t)) f)
      (λ b. let h = leb-false (n + length t) (length d) b in put_none (λ k. omega arith))
  put_behind (Err t) e = put_none (λ k. omega arith)
