-- Texts one behind the other, and their ends: a text joined from others is cut at the ends into those others again. No mention of formats. Assumes nothing.
use mathlib.Core.Path.{◌≡◌, refl, sym, ap, ◌∙◌}
use mathlib.Core.List.{List, [], ◌∷◌, ◌++◌, append_assoc, append-nil}
use Prim.Native.Nat.{ℕ, zero, suc, ◌+◌, ◌≤◌, ◌<◌}
use native.Mathlib.Omega.{arith}
use lib.ListN.{length, get_or, take, drop, length-append}
use lib.Seq.{take-append_seam, drop-append-add}
use Rattle.outcomes.specs.Printed.{joined, ends_from}

-- the next of a list: where it is, and the lists taken up to it
module _ {A : Type 0} where
  no_next : (x : A) (r : List A) → [] ≡ x ∷ r → ⊥
  no_next x r e = let z : ◌≡◌ {A = ℕ} 0 (suc (length r)) = ap length e in omega arith

  pub next-below : (k : ℕ) (xs : List A) (x : A) (r : List A) → drop k xs ≡ x ∷ r → k < length xs
  next-below zero [] x r e = absurd (no_next x r e)
  next-below zero (y ∷ xs) x r e = omega arith
  next-below (suc k) [] x r e = absurd (no_next x r e)
  next-below (suc k) (y ∷ xs) x r e = let h = next-below k xs x r e in omega arith

  pub next_rest : (k : ℕ) (xs : List A) (x : A) (r : List A) → drop k xs ≡ x ∷ r → drop (suc k) xs ≡ r
  next_rest zero [] x r e = absurd (no_next x r e)
  next_rest zero (y ∷ xs) x r e = cc
  next_rest (suc k) [] x r e = absurd (no_next x r e)
  next_rest (suc k) (y ∷ xs) x r e = next_rest k xs x r e

  pub next_taken : (k : ℕ) (xs : List A) (x : A) (r : List A) → drop k xs ≡ x ∷ r → take (suc k) xs ≡ take k xs ++ (x ∷ [])
  next_taken zero [] x r e = absurd (no_next x r e)
  next_taken zero (y ∷ xs) x r e = let h : y ≡ x = cc in ap (λ (z : A). z ∷ []) h
  next_taken (suc k) [] x r e = absurd (no_next x r e)
  next_taken (suc k) (y ∷ xs) x r e = ap (λ (zs : List A). y ∷ zs) (next_taken k xs x r e)

  pub none_left : (k : ℕ) (xs : List A) → drop k xs ≡ [] → take k xs ≡ xs
  none_left zero xs e = sym e
  none_left (suc k) [] e = refl
  none_left (suc k) (y ∷ xs) e = ap (λ (zs : List A). y ∷ zs) (none_left k xs e)

joined-append : (ts us : List (List ℕ)) → joined (ts ++ us) ≡ joined ts ++ joined us
unfolding joined
joined-append [] us = refl
joined-append (t ∷ ts) us = ap (λ (l : List ℕ). t ++ l) (joined-append ts us) ∙ sym (append_assoc t (joined ts) (joined us))

alone : (t : List ℕ) → joined (t ∷ []) ≡ t
unfolding joined
alone t = append-nil t

pub joined-one : (ts : List (List ℕ)) (t : List ℕ) → joined (ts ++ (t ∷ [])) ≡ joined ts ++ t
joined-one ts t = joined-append ts (t ∷ []) ∙ ap (λ (l : List ℕ). joined ts ++ l) (alone t)

pub ends_one : (n : ℕ) (ts : List (List ℕ)) (t : List ℕ)
    → ends_from n (ts ++ (t ∷ [])) ≡ ends_from n ts ++ ((n + length (joined ts) + length t) ∷ [])
unfolding ends_from joined
ends_one n [] t = let e : n + length t ≡ n + 0 + length t = omega arith in ap (λ (m : ℕ). m ∷ []) e
ends_one n (u ∷ ts) t =
    let e : n + length u + length (joined ts) + length t ≡ n + length (u ++ joined ts) + length t = simp length-append (omega arith) in
    ap (λ (l : List ℕ). (n + length u) ∷ l) (ends_one (n + length u) ts t ∙ ap (λ (m : ℕ). ends_from (n + length u) ts ++ (m ∷ [])) e)

pub ends_length : (n : ℕ) (ts : List (List ℕ)) → length (ends_from n ts) ≡ length ts
unfolding ends_from
ends_length n [] = refl
ends_length n (t ∷ ts) = ap suc (ends_length (n + length t) ts)

-- the k-th end, and the text between it and the end before
pub nth_end : (n : ℕ) (ts : List (List ℕ)) (i : ℕ) → i < length ts → get_or (ends_from n ts) i 0 ≡ n + length (joined (take (suc i) ts))
unfolding ends_from joined
nth_end n [] i h = absurd (omega arith)
nth_end n (t ∷ ts) zero h = ap (λ (l : List ℕ). n + length l) (sym (append-nil t))
nth_end n (t ∷ ts) (suc i) h = nth_end (n + length t) ts i (omega arith) ∙ simp length-append (omega arith)

pub nth_text : (ts : List (List ℕ)) (i : ℕ) (rest : List ℕ) → i < length ts
    → take (length (get_or ts i [])) (drop (length (joined (take i ts))) (joined ts ++ rest)) ≡ get_or ts i []
unfolding joined
nth_text [] i rest h = absurd (omega arith)
nth_text (t ∷ ts) zero rest h = simp append_assoc (take-append_seam t (joined ts ++ rest))
nth_text (t ∷ ts) (suc i) rest h =
    simp (append_assoc, length-append)
    (ap (take (length (get_or ts i []))) (drop-append-add t (joined ts ++ rest) (length (joined (take i ts)))) ∙ nth_text ts i rest (omega arith))

-- one end and the next differ by the text between them
pub between : (ts : List (List ℕ)) (i : ℕ) → i < length ts → length (joined (take (suc i) ts)) ≡ length (joined (take i ts)) + length (get_or ts i [])
unfolding joined
between [] i h = absurd (omega arith)
between (t ∷ ts) zero h = simp length-append (omega arith)
between (t ∷ ts) (suc i) h = simp length-append (omega (arith, between ts i (omega arith)))

pub joined_part : (k : ℕ) (ts : List (List ℕ)) → length (joined (take k ts)) ≤ length (joined ts)
unfolding joined
joined_part zero ts = omega arith
joined_part (suc k) [] = omega arith
joined_part (suc k) (t ∷ ts) = simp length-append (omega (arith, joined_part k ts))
