-- Width and precision of an element that stands in a format are at most the largest number. Assumes nothing.
use Rattle.std.specs.Prelude.{None, Option, Some, Err, Ok}
use mathlib.Core.Bool.{Bool}
use mathlib.Core.List.{List}
use Prim.Native.Nat.{ℕ, ◌+◌, ◌≤◌}
use Prim.Native.Char.{code}
use native.Mathlib.Omega.{arith}
use lib.ListN.{length, drop}
use Rattle.refusals.specs.Limits.{largest_number}
use Rattle.writing.proofs.Choose.{by_test}
use Rattle.specifiers.specs.Params.{is_param, number_at, param_of, param_at, width_of}
use Rattle.specifiers.proofs.Numbers.{NumberIn, number_in}
use Rattle.kinds.specs.Kinds.{fit_in}
use Rattle.kinds.specs.declared.Kind.{Kind}
use Rattle.specifiers.specs.Flags.{flags_at}
use Rattle.specifiers.specs.declared.flags.Flags.{Flags}
use Rattle.specifiers.specs.Specifier.{begins_with, precision_at, letter_at, after_precision, after_width, after_flags, parts_at, fitted, after_letter}
use Rattle.specifiers.specs.Specifier.{after_parts, specifier_at}
use Rattle.specifiers.specs.declared.Element.{Element}
use Rattle.specifiers.specs.declared.Parts.{Parts}
use Rattle.refusals.specs.Numbers.{Parsed}
use Rattle.kinds.specs.declared.letters.ConversionType.{ConversionType}
use Rattle.kinds.specs.declared.Form.{Form}

abbrev pub Within : Option ℕ → Type 0
Within None = Unit {0}
Within (Some n) = n ≤ largest_number

pub width-within : (p : Option ℕ) → Within p → width_of p ≤ largest_number
width-within None h = omega arith
width-within (Some n) h = h

-- What is said of an element, and of each answer on the way to it.
abbrev pub Limited : Element → Type 0
Limited e = Within e.width × Within e.precision

abbrev ParamLimited : Parsed (Option ℕ) → Type 0
ParamLimited (Ok (p, at)) = Within p
ParamLimited (Err refusal) = Unit {0}

abbrev PartsLimited : Parsed Parts → Type 0
PartsLimited (Ok (x, at)) = Within x.width × Within x.precision
PartsLimited (Err refusal) = Unit {0}

abbrev pub SpecifierLimited : Parsed Element → Type 0
SpecifierLimited (Ok (e, at)) = Limited e
SpecifierLimited (Err refusal) = Unit {0}

module _ (s : List ℕ) where
  of_number : (n at : ℕ) (x : Parsed ℕ) → NumberIn n at x → ParamLimited (param_of x)
  of_number n at (Ok (v, next)) h = h.0
  of_number n at (Err refusal) h = tt

  param_limited : (zero : Bool) (at : ℕ) → ParamLimited (param_at zero s at)
  unfolding param_at
  param_limited zero at =
      by_test ParamLimited (is_param zero (drop at s)) _ _ (λ _. of_number (length s) at (number_at s at) (number_in s at)) (λ _. tt)

  precision_limited : (at : ℕ) → ParamLimited (precision_at s at)
  unfolding precision_at
  precision_limited at = by_test ParamLimited (begins_with (code ".") (drop at s)) _ _ (λ _. param_limited _ (at + 1)) (λ _. tt)

  of_precision : (f : Flags) (w : Option ℕ) (t : Parsed (Option ℕ)) → Within w → ParamLimited t → PartsLimited (after_precision f w t)
  of_precision f w (Ok (p, at)) h k = (h, k)
  of_precision f w (Err refusal) h k = tt

  of_width : (f : Flags) (t : Parsed (Option ℕ)) → ParamLimited t → PartsLimited (after_width s f t)
  of_width f (Ok (w, at)) h = of_precision f w (precision_at s at) h (precision_limited at)
  of_width f (Err refusal) h = tt

  of_flags : (t : Parsed Flags) → PartsLimited (after_flags s t)
  of_flags (Ok (f, at)) = of_width f (param_at _ s at) (param_limited _ at)
  of_flags (Err refusal) = tt

  module _ (a : ℕ) (k : Option Kind) where
    of_letter : (x : Parts) (t : Parsed (ConversionType × Bool)) → PartsLimited (Ok (x, 0)) → SpecifierLimited (after_letter a k x t)
    of_letter x (Ok ((c, u), at)) h = of_fit (fit_in c k)
      where
        of_fit : (f : Option Form) → SpecifierLimited (fitted a x c u at f)
        of_fit (Some f) = h
        of_fit None = tt
    of_letter x (Err refusal) h = tt

    of_parts : (t : Parsed Parts) → PartsLimited t → SpecifierLimited (after_parts s a k t)
    of_parts (Ok (x, at)) h = of_letter x (letter_at s at) h
    of_parts (Err refusal) h = tt

    pub specifier_limited : (at : ℕ) → SpecifierLimited (specifier_at s at a k)
    unfolding specifier_at parts_at
    specifier_limited at = of_parts (parts_at s at) (of_flags (flags_at s at))
