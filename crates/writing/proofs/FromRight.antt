-- A text that is made from its last byte to its first: a state gives a byte, and then the next state. Laws for a loop that stores such bytes
-- from a known end backwards, whatever the bytes are. Assumes nothing.
use mathlib.Core.Path.{◌≡◌, refl, sym, ap, ◌∙◌}
use mathlib.Core.List.{List, [], ◌∷◌, ◌++◌, append_assoc, append-nil}
use Prim.Native.Nat.{ℕ, zero, suc, ◌+◌, ◌<◌}
use native.Mathlib.Nat.{le_of_eq}
use native.Mathlib.Numerals.{add-one}
use native.Mathlib.Omega.{arith}
use lib.ListN.{length, get_or, take, drop, set, length-append, drop_of_length-le, take-append-drop}
use lib.Seq.{drop_at, take-suc, set_at, length-take-le}
use Rattle.writing.specs.Laid.{laid}

-- the last k bytes from the state s on
unfoldable pub from_right : {S : Type 0} → (S → ℕ) → (S → S) → ℕ → S → List ℕ
from_right byte next zero s = []
from_right byte next (suc k) s = from_right byte next k (next s) ++ (byte s ∷ [])

-- What the slice holds when the bytes of D from place i on are stored, D being the whole text.
abbrev pub stored_from : List ℕ → List ℕ → ℕ → List ℕ
stored_from d D i = take i d ++ (drop i D ++ drop (length D) d)

pub stored_none : (d D : List ℕ) (n : ℕ) → length D ≡ n → d ≡ stored_from d D n
stored_none d D n e =
    let none : drop n D ≡ [] = drop_of_length-le D (le_of_eq e) in
    rw (none, e) (sym (take-append-drop n d))

pub stored_all : (d D : List ℕ) → stored_from d D 0 ≡ laid d D
unfolding laid
stored_all d D = refl

module _ {S : Type 0} (byte : S → ℕ) (next : S → S) where
  pub length_from_right : (k : ℕ) (s : S) → length (from_right byte next k s) ≡ k
  unfolding from_right
  length_from_right zero s = refl
  length_from_right (suc k) s =
      length-append (from_right byte next k (next s)) (byte s ∷ [])
      ∙ ap (λ (j : ℕ). j + 1) (length_from_right k (next s))
      ∙ add-one k

  -- nothing is stored yet
  pub all_left : (k : ℕ) (s : S) → from_right byte next k s ≡ from_right byte next k s ++ drop k (from_right byte next k s)
  all_left k s =
      let none : drop k (from_right byte next k s) ≡ [] = drop_of_length-le (from_right byte next k s) (le_of_eq (length_from_right k s)) in
      rw (none, append-nil)

  -- one byte more
  pub one_more : (j : ℕ) (s : S) (D : List ℕ) → D ≡ from_right byte next (j + 1) s ++ drop (j + 1) D
      → (D ≡ from_right byte next j (next s) ++ drop j D) × (drop j D ≡ byte s ∷ drop (j + 1) D)
  unfolding from_right
  one_more j s D e =
      let f : D ≡ from_right byte next j (next s) ++ (byte s ∷ drop (j + 1) D) = e ∙ simp (add-one, append_assoc) in
      let g : drop j D ≡ byte s ∷ drop (j + 1) D =
      ap (drop j) f ∙ drop_at (from_right byte next j (next s)) (byte s ∷ drop (j + 1) D) j (length_from_right j (next s)) in
      (f ∙ ap (λ (l : List ℕ). from_right byte next j (next s) ++ l) (sym g), g)

-- its store
pub store_one : (d D : List ℕ) (j b : ℕ) → j < length d → drop j D ≡ b ∷ drop (j + 1) D → set (stored_from d D (j + 1)) j b ≡ stored_from d D j
store_one d D j b h e =
    let r = drop (j + 1) D ++ drop (length D) d in
    let t : take (j + 1) d ≡ take j d ++ (get_or d j 0 ∷ []) = rw add-one (take-suc d j 0 h) in
    ap (λ (l : List ℕ). set (l ++ r) j b) t
    ∙ ap (λ (l : List ℕ). set l j b) (append_assoc (take j d) (get_or d j 0 ∷ []) r)
    ∙ set_at (take j d) (get_or d j 0) r b j (length-take-le j d (omega arith))
    ∙ ap (λ (l : List ℕ). take j d ++ (l ++ drop (length D) d)) (sym e)
