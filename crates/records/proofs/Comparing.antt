-- Laws of what is compared: lists compare as equal exactly where they are, and ends one by one. Assumes nothing.
use Rattle.std.proofs.Common.{◌≡◌, ℕ, suc, ◌+◌, ◌*◌, ◌-◌, ◌≤◌, ◌<◌, ◌≢◌, true, false, List, length, get_or, drop, refl, add-one, arith, drop_of_length-le, drop-cons}
use Rattle.std.proofs.lemmas.Bool.{eq-eqb, ne_eqb}
use Rattle.std.specs.Cmp.Lexicographic.{bytes_decides}
use Rattle.words.specs.LittleEndian.{word_at}
use Rattle.records.specs.Comparing.{same_list, fours}

-- Lists compare as the same exactly where they are.
pub same_refl : (a : List ℕ) → same_list a a ≡ true
same_refl a = (bytes_decides a a).1 refl

pub same_equal : (a b : List ℕ) → same_list a b ≡ true → a ≡ b
same_equal a b = (bytes_decides a b).0

-- One end more.
module _ (ends s : List ℕ) (at i : ℕ) (h : i < length ends) where
  one_more : length ends - i ≡ suc (length ends - (i + 1))
  one_more = omega arith

  pub fours_next : get_or ends i 0 ≡ word_at 4 s (at + 4 * i)
      → same_list (drop i ends) (fours s (at + 4 * i) (length ends - i)) ≡ same_list (drop (i + 1) ends) (fours s (at + 4 * (i + 1)) (length ends - (i + 1)))
  unfolding fours
  fours_next e =
      let p : at + 4 * i + 4 ≡ at + 4 * (i + 1) = omega arith in
      simp (drop-cons ends i 0 h, one_more, eq-eqb _ _ e, p, ← add-one)

  pub fours_not : (get_or ends i 0 ≢ word_at 4 s (at + 4 * i)) → same_list (drop i ends) (fours s (at + 4 * i) (length ends - i)) ≡ false
  unfolding fours
  fours_not e = simp (drop-cons ends i 0 h, one_more, ne_eqb _ _ e)

pub fours_none : (ends s : List ℕ) (at i : ℕ) → length ends ≤ i → same_list (drop i ends) (fours s (at + 4 * i) (length ends - i)) ≡ true
unfolding fours
fours_none ends s at i h = let z : length ends - i ≡ 0 = omega arith in simp (drop_of_length-le ends h, z)
