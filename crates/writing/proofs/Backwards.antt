-- A loop that writes a text from its last byte to its first, by a state that gives the byte and the next state: what holds before and after each
-- turn, whatever the bytes are. Assumes nothing.
use mathlib.Core.Path.{◌≡◌, refl, sym, ap, ◌∙◌}
use mathlib.Core.List.{List, [], ◌∷◌, ◌++◌}
use Prim.Native.Nat.{ℕ, suc, ◌+◌, ◌-◌, ◌≤◌, ◌<◌}
use native.Mathlib.Numerals.{add-one}
use native.Mathlib.Omega.{arith}
use lib.ListN.{length, drop, set, length-set, length-append}
use Rattle.writing.specs.Laid.{laid}
use Rattle.writing.proofs.FromRight.{from_right, stored_from, stored_none, stored_all, length_from_right, all_left, one_more, store_one}

-- The bytes of D from place i on are stored in what was d, and the state s gives those before them.
abbrev pub Written : {S : Type 0} → (S → ℕ) → (S → S) → List ℕ → List ℕ → List ℕ → ℕ → S → Type 0
Written byte next d D out i s =
    (length out ≡ length d) × (D ≡ from_right byte next i s ++ drop i D) × (out ≡ stored_from d D i)

-- A text and one byte behind it, that the state before gives.
pub right_more : {S : Type 0} (byte : S → ℕ) (next : S → S) (t : List ℕ) (b : ℕ) (s u : S) → byte s ≡ b → next s ≡ u
    → t ≡ from_right byte next (length t) u → t ++ (b ∷ []) ≡ from_right byte next (length (t ++ (b ∷ []))) s
unfolding from_right
right_more byte next t b s u e f g =
    let n : length (t ++ (b ∷ [])) ≡ suc (length t) = length-append t (b ∷ []) ∙ add-one (length t) in
    sym
    (ap (λ (k : ℕ). from_right byte next k s) n
    ∙ ap (λ (v : _). from_right byte next (length t) v ++ (byte s ∷ [])) f
    ∙ ap (λ (c : ℕ). from_right byte next (length t) u ++ (c ∷ [])) e
    ∙ ap (λ (l : List ℕ). l ++ (b ∷ [])) (sym g))

module _ {S : Type 0} (byte : S → ℕ) (next : S → S) (d D : List ℕ) where
  pub written_none : (n : ℕ) (s : S) → D ≡ from_right byte next n s → Written byte next d D d n s
  written_none n s e = (
    refl,
    e ∙ all_left byte next n s ∙ ap (λ (l : List ℕ). from_right byte next n s ++ drop n l) (sym e),
    stored_none d D n (ap length e ∙ length_from_right byte next n s),
  )

  pub written_turn : (out : List ℕ) (i : ℕ) (s t : S) (b : ℕ) → 0 < i → i ≤ length d → byte s ≡ b → next s ≡ t
      → Written byte next d D out i s → Written byte next d D (set out (i - 1) b) (i - 1) t
  written_turn out i s t b p h e f w =
      let j = i - 1 in
      let g : i ≡ j + 1 = omega arith in
      let m = one_more byte next j s D (w.1 ∙ ap (λ (k : ℕ). from_right byte next k s ++ drop k D) g) in (
        length-set out j b ∙ w.0,
        m.0 ∙ ap (λ (u : S). from_right byte next j u ++ drop j D) f,
        ap (λ (o : List ℕ). set o j b) (w.2 ∙ ap (stored_from d D) g)
            ∙ store_one d D j b (omega arith) (m.1 ∙ ap (λ (c : ℕ). c ∷ drop (j + 1) D) e),
      )

  pub written_all : (out : List ℕ) (i : ℕ) (s : S) → i ≡ 0 → Written byte next d D out i s → out ≡ laid d D
  written_all out i s e w = w.2 ∙ ap (stored_from d D) e ∙ stored_all d D
