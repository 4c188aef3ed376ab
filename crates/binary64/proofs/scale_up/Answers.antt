-- `binary64::scale_up` meets its contract: neither the value nor the product is a NaN. Assumes nothing.
use mathlib.Core.Path.{refl}
use mathlib.Core.Bool.{false}
use Prim.Native.Nat.{◌*◌, ◌^◌}
use lib.Ieee.{binary64, of_bits, mul}
use lib.Ieee.Bits.{nan_bits_is}
use Rattle.binary64.specs.Fields.{scaled_bits}
use Rattle.binary64.proofs.Value.{not_nan}
use Rattle.binary64.proofs.Scaled.{factor, subnormal_value, product_value}
use Rattle.binary64.proofs.scale_up.Goals as goal

pub float_from_bits-result : goal.float_from_bits-result
float_from_bits-result c =
    let b = c.args.bits in
    rw (nan_bits_is binary64 b) (not_nan (of_bits binary64 b) false b (2 ^ 1074) (subnormal_value b c.requires.1))

pub float_to_bits-result : goal.float_to_bits-result
float_to_bits-result c =
    let b = c.args.bits in
    not_nan (mul binary64 (of_bits binary64 b) factor) false (b * 2 ^ 54) (2 ^ 1074) (product_value b c.requires.0 c.requires.1)

pub returns : goal.returns
unfolding scaled_bits
returns c = refl
