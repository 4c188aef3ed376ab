-- What holds of well-formed UTF-8: a text of bytes below 128 is well-formed, and a text behind a well-formed one is judged by itself. Assumes nothing.
use Prim.Native.Nat.{ℕ, zero, suc, ◌<◌, max}
use native.Mathlib.Omega.{arith}
use mathlib.Core.Bool.{Bool, true, false, ◌&&◌}
use mathlib.Core.List.{List, [], ◌∷◌, ◌++◌}
use mathlib.Core.Path.{◌≡◌, refl}
use Rattle.std.specs.List.{fold}
use Rattle.std.specs.Str.{IsAscii}
use Rattle.std.proofs.lemmas.Str.Ascii.{IsAscii-nil, IsAscii-cons}
use Rattle.utf8.specs.Utf8.{between, lead_of, after_lead, well_formed_from, well_formed}
use Rattle.std.specs.Prelude.{Option, Some, None}
use Rattle.utf8.specs.declared.Follow.{Follow}
use Rattle.utf8.proofs.Utf8.{lead_one}

pub ascii : (s : List ℕ) → IsAscii s → well_formed s ≡ true
unfolding well_formed well_formed_from
ascii [] a = refl
ascii (b ∷ bs) a = simp (lead_one b (a 0)) (ascii bs (λ i. a (suc i)))

-- a text whose largest byte is below 128
below : (a : ℕ) (s : List ℕ) → fold max a s < 0x80 → (a < 0x80) × IsAscii s
below a [] h = (h, IsAscii-nil)
below a (b ∷ bs) h =
    let p = below (max a b) bs h in
    (omega (arith, p.0), IsAscii-cons b bs (omega (arith, p.0)) p.1)

pub ascii_below : (s : List ℕ) → fold max 0 s < 0x80 → well_formed s ≡ true
ascii_below s h = ascii s (below 0 s h).1

-- The range of the next byte says nothing where a character is complete.
any_range : (low high : ℕ) (s : List ℕ) → well_formed_from 0 low high s ≡ well_formed s
unfolding well_formed_from well_formed
any_range low high [] = refl
any_range low high (b ∷ bs) = refl

module _ (xs ys : List ℕ) (same : (n l h : ℕ) → well_formed_from n l h xs ≡ true → well_formed_from n l h (xs ++ ys) ≡ well_formed ys) where
  after_lead_lem : (lead : Option Follow) → after_lead lead (λ n l h. well_formed_from n l h xs) ≡ true
      → after_lead lead (λ n l h. well_formed_from n l h (xs ++ ys)) ≡ well_formed ys
  after_lead_lem (Some f) e = same f.need f.low f.high e
  after_lead_lem None e = cc

  after_test : (test : Bool) (n l h : ℕ) → test && well_formed_from n l h xs ≡ true → test && well_formed_from n l h (xs ++ ys) ≡ well_formed ys
  after_test true n l h e = same n l h e
  after_test false n l h e = cc

from-append : (need low high : ℕ) (xs ys : List ℕ) → well_formed_from need low high xs ≡ true → well_formed_from need low high (xs ++ ys) ≡ well_formed ys
unfolding well_formed_from
from-append zero low high [] ys e = any_range low high ys
from-append (suc need) low high [] ys e = cc
from-append zero low high (b ∷ xs) ys e = after_lead_lem xs ys (λ n l h. from-append n l h xs ys) (lead_of b) e
from-append (suc need) low high (b ∷ xs) ys e = after_test xs ys (λ n l h. from-append n l h xs ys) (between low high b) need 0x80 0xbf e

pub append : (xs ys : List ℕ) → well_formed xs ≡ true → well_formed (xs ++ ys) ≡ well_formed ys
unfolding well_formed
append xs ys e = from-append 0 0x80 0xbf xs ys e
