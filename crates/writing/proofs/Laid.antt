-- Laws of `laid`, a text over the start of a list. Assumes nothing.
use mathlib.Core.Bool.{true, false}
use mathlib.Core.Path.{◌≡◌, refl, sym, ap, ◌∙◌}
use mathlib.Core.List.{List, [], ◌∷◌, ◌++◌, append_assoc, append-nil}
use Prim.Native.Nat.{ℕ, suc, ◌+◌, ◌-◌, ◌≤◌, ◌<◌}
use native.Mathlib.Nat.{le_of_eq, zero-add}
use native.Mathlib.Numerals.{add-one}
use native.Mathlib.Omega.{arith}
use lib.Dec.{leb}
use lib.ListN.{length, get_or, take, drop, set, length-append, length-drop, drop_of_length-le}
use lib.Seq.{drop-cons, take_at, take-append_seam, drop-append_seam, drop-drop, take-suc, length-take-le, set_at, take_all, sets, sets-eq}
use borrow.Author.Tests.{le-leb, lt-leb}
use borrow.Rule.Slice.PartMut.{put_mid, mid_of}
use Rattle.writing.specs.Laid.{laid}
use Rattle.writing.specs.Writers.{laid_if_room, Wrote}

pub laid_none : (d : List ℕ) → laid d [] ≡ d
unfolding laid
laid_none d = refl

pub length-laid : (d t : List ℕ) → length t ≤ length d → length (laid d t) ≡ length d
unfolding laid
length-laid d t h = simp (length-append, length-drop) (omega arith)

-- what a text was laid over has the whole of it
pub text-within : (d t : List ℕ) → length t ≤ length (laid d t)
unfolding laid
text-within d t = simp length-append (omega arith)

-- one byte more
pub laid_more : (d t : List ℕ) (n b : ℕ) → length t ≡ n → n < length d → set (laid d t) n b ≡ laid d (t ++ (b ∷ []))
unfolding laid
laid_more d t n b e h =
    rw (e, drop-cons d n 0 h, set_at t (get_or d n 0) (drop (suc n) d) b n e)
    (simp (append_assoc, length-append, e, add-one))

-- the first byte
pub laid-first : (d : List ℕ) (b : ℕ) → 0 < length d → set d 0 b ≡ laid d (b ∷ [])
laid-first d b h = ap (λ (l : List ℕ). set l 0 b) (sym (laid_none d)) ∙ laid_more d [] 0 b refl h

-- bytes stored one after the other
pub laid_stores : (d t : List ℕ) → length t ≤ length d → sets d 0 t ≡ laid d t
unfolding laid
laid_stores d t h = let k : 0 + length t ≤ length d = omega arith in sets-eq t d 0 k ∙ simp zero-add

-- a turn of a copy
pub copy_step : (d s : List ℕ) (i : ℕ) → i < length s → length s ≤ length d → set (laid d (take i s)) i (get_or s i 0) ≡ laid d (take (i + 1) s)
copy_step d s i h k =
    laid_more d (take i s) i (get_or s i 0) (length-take-le i s (omega arith)) (omega arith)
    ∙ ap (laid d) (sym (take-suc s i 0 h) ∙ ap (λ (n : ℕ). take n s) (sym (add-one i)))

-- a text after a text, at the place where the first ends
laid_on : (d t u : List ℕ) (n : ℕ) → length t ≡ n → take n (laid d t) ++ laid (drop n (laid d t)) u ≡ laid d (t ++ u)
unfolding laid
laid_on d t u n e =
    rw (← e) (simp (take-append_seam, drop-append_seam, drop-drop, append_assoc, length-append))

-- The part from n on, lent to a writer of u, is back: what the borrow checker says of it, as a list.
pub lent_back : (xs u : List ℕ) (n : ℕ) → put_mid n (length xs - n) xs (laid (mid_of n (length xs - n) xs) u) ≡ take n xs ++ laid (drop n xs) u
lent_back xs u n =
    let whole : take (length xs - n) (drop n xs) ≡ drop n xs = take_all (length xs - n) (drop n xs) (le_of_eq (length-drop n xs)) in
    let none : drop (length xs - n) (drop n xs) ≡ [] = drop_of_length-le (drop n xs) (le_of_eq (length-drop n xs)) in
    simp (whole, none, append-nil)

-- One write more: D is what the slice holds so far, and Y what the writer of u left of the part from n on.
pub laid_next : (d t u D Y : List ℕ) (n : ℕ) → D ≡ laid d t → length t ≡ n → Y ≡ laid (mid_of n (length D - n) D) u
    → put_mid n (length D - n) D Y ≡ laid d (t ++ u)
laid_next d t u D Y n p e q = ap (put_mid n (length D - n) D) q ∙ lent_back D u n ∙ rw p (laid_on d t u n e)

-- with room for the text, and without
pub laid-room : (d t : List ℕ) → length t ≤ length d → laid_if_room d t ≡ laid d t
unfolding laid_if_room
laid-room d t h = let e : leb (length t) (length d) ≡ true = le-leb (length t) (length d) h in rw e refl

pub laid_no_room : (d t : List ℕ) → length d < length t → laid_if_room d t ≡ d
unfolding laid_if_room
laid_no_room d t h = let e : leb (length t) (length d) ≡ false = lt-leb (length t) (length d) h in rw e refl

-- no text leaves what was there
pub none-laid : (d : List ℕ) → laid_if_room d [] ≡ d
none-laid d = laid-room d [] (omega arith) ∙ laid_none d

-- A text that was written is read again.
pub wrote_start : (d t out : List ℕ) (n : ℕ) → Wrote d t n out → take n out ≡ t
unfolding laid
wrote_start d t out n w = ap (take n) w.1 ∙ take_at t (drop (length t) d) n (sym w.0)

-- what the writers of this crate need of them
pub ruleset rooms = (laid-first, laid-room, laid_no_room)
