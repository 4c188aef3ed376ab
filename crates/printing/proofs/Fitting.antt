-- Texts over the start of a list as far as they have room, and their ends in 32 bits: all of them, and one more. Assumes nothing.
use Rattle.std.specs.Prelude.{Ok}
use mathlib.Core.Path.{◌≡◌, refl, sym, ap, ◌∙◌}
use mathlib.Core.Bool.{Bool, true, false}
use mathlib.Core.List.{List, [], ◌∷◌, ◌++◌, map, map-append, append-nil}
use Prim.Native.Nat.{ℕ, ◌+◌, ◌-◌, ◌%◌, ◌≤◌, ◌<◌}
use native.Mathlib.Omega.{arith}
use native.Mathlib.Nat.{mod-eq_of_lt}
use lib.Dec.{leb}
use lib.ListN.{length, take, set, length-append}
use lib.Seq.{take-nil, take_all, take-append-le, set_out}
use borrow.Author.Tests.{le-leb, lt-leb, leb-true, leb-false}
use Rattle.refusals.specs.Limits.{largest_end}
use Rattle.writing.specs.Choose.{choose}
use Rattle.writing.specs.Laid.{laid}
use Rattle.writing.proofs.Choose.{by_test}
use Rattle.writing.proofs.Laid.{laid_none, laid_more}
use Rattle.outcomes.specs.Printed.{joined, ends_from}
use Rattle.outcomes.proofs.Joined.{joined-one, ends_one, ends_length}
use Rattle.printing.specs.Tallies.{fitting, low_ends, laid_texts, laid_ends, laid_behind}
use Rattle.printing.proofs.Behind.{laid_self, laid-behind}

-- with room for all, and without room for one more
pub fitting-all : (room : ℕ) (ts : List (List ℕ)) → length (joined ts) ≤ room → fitting room ts ≡ joined ts
unfolding fitting joined
fitting-all room [] h = refl
fitting-all room (t ∷ ts) h =
    let long = length-append t (joined ts) in
    let fits : length t ≤ room = omega (arith, long) in
    simp (le-leb (length t) room fits) (ap (λ (l : List ℕ). t ++ l) (fitting-all (room - length t) ts (omega (arith, long))))

if_same : (b : Bool) (x y : List ℕ) → (b ≡ true → x ≡ y) → choose b (λ _. x) (λ _. []) ≡ choose b (λ _. y) (λ _. [])
if_same true x y f = f refl
if_same false x y f = refl

fitting_over : (room : ℕ) (ts : List (List ℕ)) (t : List ℕ) → room < length (joined ts) + length t → fitting room (ts ++ (t ∷ [])) ≡ fitting room ts
unfolding fitting joined
fitting_over room [] t h = simp (lt-leb (length t) room (omega arith))
fitting_over room (u ∷ ts) t h =
    if_same (leb (length u) room) _ _
    (λ q.
    let k = leb-true (length u) room q in
    ap (λ (l : List ℕ). u ++ l) (fitting_over (room - length u) ts t (omega (arith, length-append u (joined ts)))))

-- Nothing, or one text more, over the start of d, of which D is what the texts before left.
pub texts-none : (d : List ℕ) → d ≡ laid_texts [] d
unfolding fitting
texts-none d = sym (laid_none d)

module _ (ts : List (List ℕ)) (d D : List ℕ) (h : D ≡ laid_texts ts d) (long : length D ≡ length d) where
  pub text-behind : (t : List ℕ) → laid_behind (Ok (length (joined ts))) D t ≡ laid_texts (ts ++ (t ∷ [])) d
  text-behind t =
      by_test (λ (l : List ℕ). l ≡ laid_texts (ts ++ (t ∷ [])) d) (leb (length (joined ts) + length t) (length D)) _ _
      (λ b.
      let fits = leb-true (length (joined ts) + length t) (length D) b in
      let all = joined-one ts t in
      let before = fitting-all (length d) ts (omega arith) in
      let after = fitting-all (length d) (ts ++ (t ∷ [])) (omega (arith, ap length all, length-append (joined ts) t)) in
      laid-behind d (joined ts) t D (length (joined ts)) (h ∙ ap (laid d) before) refl ∙ ap (laid d) (sym (after ∙ all)))
      (λ b.
      let over = leb-false (length (joined ts) + length t) (length D) b in
      h ∙ ap (laid d) (sym (fitting_over (length d) ts t (omega arith))))

-- an empty text leaves what was there
pub empty_behind : (n : ℕ) (d : List ℕ) → laid_behind (Ok n) d [] ≡ d
empty_behind n d =
    by_test (λ (l : List ℕ). l ≡ d) (leb (n + 0) (length d)) _ _
    (λ b.
    let k = leb-true (n + 0) (length d) b in
    ap (laid d) (append-nil (take n d)) ∙ laid_self d n (omega arith))
    (λ _. refl)

-- No end, or one more, over the start of e.
pub ends_none : (e : List ℕ) → e ≡ laid_ends [] e
unfolding ends_from
ends_none e = sym (ap (laid e) (take-nil (length e)) ∙ laid_none e)

one_end : (e E xs : List ℕ) (k x : ℕ) → length xs ≡ k → length E ≡ length e → E ≡ laid e (take (length e) xs)
    → set E k x ≡ laid e (take (length e) (xs ++ (x ∷ [])))
one_end e E xs k x n many h = go (leb (length xs + 1) (length e)) refl
  where
    go : (b : Bool) → leb (length xs + 1) (length e) ≡ b → set E k x ≡ laid e (take (length e) (xs ++ (x ∷ [])))
    go true q =
        let le = leb-true (length xs + 1) (length e) q in
        let all : length (xs ++ (x ∷ [])) ≤ length e = omega (arith, length-append xs (x ∷ [])) in
        ap (λ (l : List ℕ). set l k x) (h ∙ ap (laid e) (take_all (length e) xs (omega arith)))
        ∙ laid_more e xs k x n (omega arith)
        ∙ ap (laid e) (sym (take_all (length e) (xs ++ (x ∷ [])) all))
    go false q =
        let lt = leb-false (length xs + 1) (length e) q in
        set_out E k x (omega arith) ∙ h ∙ ap (laid e) (sym (take-append-le (length e) xs (x ∷ []) (omega arith)))

abbrev low : ℕ → ℕ
low n = n % 4294967296

map-length : (ns : List ℕ) → length (map low ns) ≡ length ns
map-length [] = refl
map-length (n ∷ ns) = let h = map-length ns in omega arith

pub end-behind : (ts : List (List ℕ)) (t e E : List ℕ) (k : ℕ) → length ts ≡ k → length E ≡ length e → E ≡ laid_ends ts e
    → set E k ((length (joined ts) + length t) % 4294967296) ≡ laid_ends (ts ++ (t ∷ [])) e
end-behind ts t e E k count many h =
    let n = length (joined ts) + length t in
    let w : 0 + length (joined ts) + length t ≡ n = omega arith in
    let all = ap (map low) (ends_one 0 ts t) ∙ map-append low (ends_from 0 ts) _ ∙ ap (λ (m : ℕ). map low (ends_from 0 ts) ++ (low m ∷ [])) w in
    one_end e E (map low (ends_from 0 ts)) k (low n) (map-length (ends_from 0 ts) ∙ ends_length 0 ts ∙ count) many h
    ∙ ap (λ (l : List ℕ). laid e (take (length e) l)) (sym all)

-- ends that 32 bits hold, with a slot for each
low_same : (n : ℕ) (ts : List (List ℕ)) → n + length (joined ts) ≤ largest_end → map low (ends_from n ts) ≡ ends_from n ts
unfolding ends_from joined
low_same n [] h = refl
low_same n (t ∷ ts) h =
    let long = length-append t (joined ts) in
    let small : n + length t < 4294967296 = omega (arith, long) in
    ap (λ (m : ℕ). m ∷ map low (ends_from (n + length t) ts)) (mod-eq_of_lt small)
    ∙ ap (λ (l : List ℕ). (n + length t) ∷ l) (low_same (n + length t) ts (omega (arith, long)))

pub ends_all : (slots : ℕ) (ts : List (List ℕ)) → length ts ≤ slots → length (joined ts) ≤ largest_end → low_ends slots ts ≡ ends_from 0 ts
ends_all slots ts h wide =
    ap (take slots) (low_same 0 ts (omega arith)) ∙ take_all slots (ends_from 0 ts) (omega (arith, ends_length 0 ts))
