-- The hexadecimal text of a float is not too long for a frame. Assumes nothing.
use Rattle.std.specs.Prelude.{None, Option, Some}
use mathlib.Core.Bool.{Bool}
use Prim.Native.Nat.{ℕ, ◌-◌, ◌^◌, ◌≤◌, ◌<◌, max}
use native.Mathlib.Omega.{arith}
use lib.Dec.{eqb, ltb}
use borrow.Author.Tests.{ltb-true}
use Rattle.refusals.specs.Limits.{largest_number}
use Rattle.writing.proofs.Choose.{by_test}
use Rattle.binary64.specs.Fields.{exponent_field, fraction_field, scaled_bits}
use Rattle.binary64.specs.Rounding.{nearest_to}
use Rattle.binary64.specs.HexFloat.{shortest, carried, rounded, normal_of, subnormal_of, hex_float_of}
use Rattle.binary64.specs.declared.HexFloat.{HexFloat}
use Rattle.binary64.proofs.Kept.{kept_bounds}
use Rattle.binary64.proofs.Value.{field_bounds}
use Rattle.hexfloats.specs.Texts.{hex_float_text}
use Rattle.hexfloats.proofs.Texts.{exponent_length, hex_length}
use Rattle.bounds.proofs.Elements.{Within}
use Rattle.bounds.proofs.Frames.{Body}

-- At most 13 digits, no more zeros than a precision asks for, and a small exponent.
abbrev Few : HexFloat → Type 0
Few h = (h.digits ≤ 13) × (h.zeros ≤ largest_number) × (h.exponent ≤ 2048) × (h.bias ≤ 1077)

module _ (f e bias : ℕ) (small : e < 2048) (near : bias ≤ 1077) where
  few-shortest : Few (shortest f e bias)
  unfolding shortest
  few-shortest = omega (arith, kept_bounds 12 f)

  few-carried : (p r : ℕ) → p < 13 → Few (carried p r e bias)
  few-carried p r h = by_test Few (ltb r (16 ^ p)) _ _ (λ _. omega arith) (λ _. omega arith)

  few-rounded : (p : ℕ) → p ≤ largest_number → Few (rounded p f e bias)
  unfolding rounded
  few-rounded p h =
      by_test Few (ltb p 13) _ _ (λ t. few-carried p (nearest_to f (16 ^ (13 - p))) (ltb-true p 13 t)) (λ _. omega arith)

  few_normal : (p : Option ℕ) → Within p → Few (normal_of p f e bias)
  few_normal None h = few-shortest
  few_normal (Some p) h = few-rounded (max p 1) (omega arith)

few_subnormal : (p : Option ℕ) (f : ℕ) → Within p → Few (subnormal_of p f)
few_subnormal None f h = omega arith
few_subnormal (Some p) f h =
    let b = scaled_bits f in
    by_test Few (ltb p 13) _ _
    (λ _. few_normal (fraction_field b) (exponent_field b) 1077 (field_bounds b).0 (omega arith) (Some p) h) (λ _. omega arith)

few_parts : (b : ℕ) (p : Option ℕ) → Within p → Few (hex_float_of b p)
unfolding hex_float_of
few_parts b p h =
    by_test Few (eqb (exponent_field b) 0) _ _
    (λ _. by_test Few (eqb (fraction_field b) 0) _ _ (λ _. omega arith) (λ _. few_subnormal p (fraction_field b) h))
    (λ _. few_normal (fraction_field b) (exponent_field b) 1023 (field_bounds b).0 (omega arith) p h)

pub float_body : (u : Bool) (b : ℕ) (p : Option ℕ) → Within p → Body (hex_float_text u (hex_float_of b p))
float_body u b p h = go (hex_float_of b p) (few_parts b p h)
  where
    go : (x : HexFloat) → Few x → Body (hex_float_text u x)
    go x few = omega (arith, hex_length u x, exponent_length u x.exponent x.bias (omega arith) (omega arith))
