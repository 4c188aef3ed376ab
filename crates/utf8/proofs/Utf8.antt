-- The definition of well-formed UTF-8, as the code goes through it: by the rows of the table, and by the bytes of a text. Assumes nothing.
use Prim.Native.Nat.{ℕ, zero, suc, ◌+◌, ◌-◌, ◌<◌, ◌≤◌}
use mathlib.Core.Bool.{false, ◌&&◌}
use mathlib.Core.List.{List, [], ◌∷◌}
use mathlib.Core.Path.{◌≡◌, refl, sym, ◌∙◌}
use native.Mathlib.Numerals.{add-one}
use native.Mathlib.Omega.{arith}
use borrow.Author.Tests.{le-leb, lt-leb, ne_eqb}
use lib.Dec.{eqb, leb-zero}
use lib.ListN.{length, drop, get_or, drop_of_length-le}
use lib.Seq.{drop-cons}
use Rattle.std.specs.Prelude.{Some, None}
use Rattle.utf8.specs.declared.Follow.{Follow}
use Rattle.utf8.specs.Utf8.{between, follow, lead_of, after_lead, well_formed_from, well_formed}

-- the row of the ASCII bytes
pub lead_one : (b : ℕ) → b < 0x80 → lead_of b ≡ follow 0 0x80 0xbf
unfolding lead_of
lead_one b h = let k : b ≤ 0x7f = omega arith in simp (leb-zero, le-leb b 0x7f k)

-- Read up to i, with `need` bytes to follow and the next of them between low and high, the rest of a text decides.
pub record ReadTo (s : List ℕ) (i need low high : ℕ) : Type 0 where
  pub decides : well_formed_from need low high (drop i s) ≡ well_formed s

pub read_none : (s : List ℕ) → ReadTo s 0 0 0x80 0xbf
unfolding well_formed
read_none s = record { decides = refl }

none_left : (need low high : ℕ) → well_formed_from need low high [] ≡ eqb need 0
unfolding well_formed_from
none_left zero low high = refl
none_left (suc need) low high = sym (ne_eqb (suc need) 0 (λ e. omega arith))

module _ {s : List ℕ} {i need low high : ℕ} (r : ReadTo s i need low high) where
  pub at_end : length s ≤ i → eqb need 0 ≡ well_formed s
  at_end h = sym (none_left need low high) ∙ simp (drop_of_length-le s h) at r.decides

  one_more : i < length s → drop i s ≡ get_or s i 0 ∷ drop (i + 1) s
  one_more h = rw (add-one, drop-cons s i 0)

  -- behind a first byte
  from_lead : i < length s → need ≡ 0 → after_lead (lead_of (get_or s i 0)) (λ n l h. well_formed_from n l h (drop (i + 1) s)) ≡ well_formed s
  unfolding well_formed_from
  from_lead h e = rw (e, one_more h) at r.decides

  pub at_lead : (f : Follow) → i < length s → need ≡ 0 → lead_of (get_or s i 0) ≡ Some f → ReadTo s (i + 1) f.need f.low f.high
  at_lead f h e k = record { decides = rw k at (from_lead h e) }

  pub at_no_lead : i < length s → need ≡ 0 → lead_of (get_or s i 0) ≡ None → well_formed s ≡ false
  at_no_lead h e k = sym (rw k at (from_lead h e))

  -- and behind a byte that follows
  from_next : i < length s → (need ≡ 0 → ⊥) → between low high (get_or s i 0) && well_formed_from (need - 1) 0x80 0xbf (drop (i + 1) s) ≡ well_formed s
  unfolding well_formed_from
  from_next h n =
      let e : need ≡ suc (need - 1) = omega arith in
      rw (e, one_more h) at r.decides

  pub at_next : i < length s → (need ≡ 0 → ⊥) → low ≤ get_or s i 0 → get_or s i 0 ≤ high → ReadTo s (i + 1) (need - 1) 0x80 0xbf
  at_next h n l k = record { decides = simp (le-leb low _ l, le-leb _ high k) at (from_next h n) }

  pub at_low : i < length s → (need ≡ 0 → ⊥) → get_or s i 0 < low → well_formed s ≡ false
  at_low h n l = sym (simp (lt-leb low _ l) at (from_next h n))

  pub at_high : i < length s → (need ≡ 0 → ⊥) → low ≤ get_or s i 0 → high < get_or s i 0 → well_formed s ≡ false
  at_high h n l k = sym (simp (le-leb low _ l, lt-leb _ high k) at (from_next h n))
