-- What a specifier reads lies in the format: each step goes forward, and the whole ends behind its letter. Assumes nothing.
use Rattle.std.specs.Prelude.{Option, None, Some, Err, Ok}
use mathlib.Core.Bool.{Bool, true, false}
use mathlib.Core.List.{List, [], ◌∷◌}
use Prim.Native.Nat.{ℕ, ◌+◌, ◌≤◌, ◌<◌}
use Prim.Native.Char.{code}
use native.Mathlib.Decide.{dec_lt}
use native.Mathlib.Omega.{arith}
use lib.Dec.{eqb}
use lib.ListN.{length, drop, length-drop}
use Rattle.writing.proofs.Choose.{by_test}
use Rattle.writing.proofs.Bytes.{no_byte}
use Rattle.specifiers.specs.Params.{is_param, number_at, param_of, param_at}
use Rattle.specifiers.proofs.Numbers.{NumberIn, number_in}
use Rattle.kinds.specs.Letters.{time_of, small_of, capital_of}
use Rattle.kinds.specs.Kinds.{fit_in}
use Rattle.kinds.specs.declared.Kind.{Kind}
use Rattle.specifiers.specs.Flags.{leading_flags, first_clash, flags_taken, flags_at}
use Rattle.specifiers.specs.Specifier.{begins_with, precision_at, after_precision, after_width, after_flags, parts_at, fitted}
use Rattle.specifiers.specs.Specifier.{capital_taken, one_letter, time_letter, second_letter, letter_from, letter_at}
use Rattle.specifiers.specs.Specifier.{after_letter, after_parts, specifier_at}
use Rattle.specifiers.specs.declared.flags.Flags.{Flags}
use Rattle.specifiers.specs.declared.Parts.{Parts}
use Rattle.refusals.specs.Numbers.{Parsed}
use Rattle.kinds.specs.declared.letters.ConversionType.{ConversionType}
use Rattle.kinds.specs.declared.letters.TimeFormat.{TimeFormat}
use Rattle.specifiers.specs.declared.Element.{Element}
use Rattle.kinds.specs.declared.Form.{Form}
use Rattle.refusals.specs.declared.Refusal.{Refusal}

-- A number ends at or behind the place where it begins.
abbrev TakenOn : ℕ → Parsed (Option ℕ) → Type 0
TakenOn at (Ok (p, next)) = at ≤ next
TakenOn at (Err refusal) = Unit {0}

param_on : (zero : Bool) (s : List ℕ) (at : ℕ) → TakenOn at (param_at zero s at)
unfolding param_at
param_on zero s at =
    by_test (TakenOn at) (is_param zero (drop at s)) _ _ (λ _. of_number (number_at s at) (number_in s at)) (λ _. omega arith)
  where
    of_number : (x : Parsed ℕ) → NumberIn (length s) at x → TakenOn at (param_of x)
    of_number (Ok (v, next)) h = omega arith
    of_number (Err refusal) h = tt

precision_on : (s : List ℕ) (at : ℕ) → TakenOn at (precision_at s at)
unfolding precision_at
precision_on s at =
    by_test (TakenOn at) (begins_with (code ".") (drop at s)) _ _
    (λ _. behind (param_at true s (at + 1)) (param_on true s (at + 1)))
    (λ _. omega arith)
  where
    behind : (t : Parsed (Option ℕ)) → TakenOn (at + 1) t → TakenOn at t
    behind (Ok (p, next)) h = omega arith
    behind (Err refusal) h = tt

-- So do the flags.
abbrev FlagsOn : ℕ → Parsed Flags → Type 0
FlagsOn at (Ok (f, next)) = at ≤ next
FlagsOn at (Err refusal) = Unit {0}

flags_on : (s : List ℕ) (at : ℕ) → FlagsOn at (flags_at s at)
unfolding flags_at
flags_on s at = taken (first_clash [] (leading_flags (drop at s))) (leading_flags (drop at s))
  where
    taken : (x : Option Refusal) (bs : List ℕ) → FlagsOn at (flags_taken x bs at)
    taken None bs = omega arith
    taken (Some refusal) bs = tt

-- A letter ends behind the place where it begins, inside the format.
abbrev LetterIn : ℕ → ℕ → Parsed (ConversionType × Bool) → Type 0
LetterIn n at (Ok ((c, u), next)) = (at < next) × (next ≤ n)
LetterIn n at (Err refusal) = Unit {0}

letter-from : (l : List ℕ) (at n : ℕ) → at + length l ≤ n → LetterIn n at (letter_from l at)
letter-from [] at n h = tt
letter-from (b ∷ l) at n h =
    by_test (LetterIn n at) (eqb b (code "t")) _ _ (λ _. second false l h)
    (λ _. by_test (LetterIn n at) (eqb b (code "T")) _ _ (λ _. second true l h) (λ _. one (small_of b) (capital_of b) h))
  where
    capital : (x : Option ConversionType) → at + length (b ∷ l) ≤ n → LetterIn n at (capital_taken x at)
    capital (Some c) k = (omega arith, omega arith)
    capital None k = tt

    one : (x y : Option ConversionType) → at + length (b ∷ l) ≤ n → LetterIn n at (one_letter x y at)
    one (Some c) y k = (omega arith, omega arith)
    one None y k = capital y k

    time : (u : Bool) (x : Option TimeFormat) → at + 2 ≤ n → LetterIn n at (time_letter u x at)
    time u (Some x) k = (omega arith, omega arith)
    time u None k = tt

    second : (u : Bool) (l : List ℕ) → at + length (b ∷ l) ≤ n → LetterIn n at (second_letter u l at)
    second u [] k = tt
    second u (d ∷ l) k = time u (time_of d) (omega arith)

letter_in : (s : List ℕ) (at : ℕ) → LetterIn (length s) at (letter_at s at)
unfolding letter_at
letter_in s at =
    elim (dec_lt (length s) at) [
      | yes k ↦ rw (no_byte s at (omega arith)) tt
      | no n ↦ letter-from (drop at s) at (length s) (rw (length-drop at s) (omega arith))
    ]

-- Flags, width and precision.
abbrev PartsOn : ℕ → Parsed Parts → Type 0
PartsOn at (Ok (x, next)) = at ≤ next
PartsOn at (Err refusal) = Unit {0}

-- An element behind its index.
abbrev pub SpecifierIn : ℕ → ℕ → Parsed Element → Type 0
SpecifierIn n at (Ok (e, next)) = (at < next) × (next ≤ n)
SpecifierIn n at (Err refusal) = Unit {0}

module _ (s : List ℕ) (at : ℕ) where
  from-precision : (f : Flags) (w : Option ℕ) (q : ℕ) → at ≤ q → (t : Parsed (Option ℕ)) → TakenOn q t → PartsOn at (after_precision f w t)
  from-precision f w q h (Ok (p, l)) i = omega arith
  from-precision f w q h (Err refusal) i = tt

  from-width : (f : Flags) (w : ℕ) → at ≤ w → (t : Parsed (Option ℕ)) → TakenOn w t → PartsOn at (after_width s f t)
  from-width f w h (Ok (x, q)) i = from-precision f x q (omega arith) (precision_at s q) (precision_on s q)
  from-width f w h (Err refusal) i = tt

  from-flags : (t : Parsed Flags) → FlagsOn at t → PartsOn at (after_flags s t)
  from-flags (Ok (f, w)) i = from-width f w i (param_at false s w) (param_on false s w)
  from-flags (Err n) i = tt

  parts_on : PartsOn at (parts_at s at)
  unfolding parts_at
  parts_on = from-flags (flags_at s at) (flags_on s at)

  module _ (a : ℕ) (k : Option Kind) where
    from-letter : (x : Parts) (l : ℕ) → at ≤ l → (t : Parsed (ConversionType × Bool)) → LetterIn (length s) l t
        → SpecifierIn (length s) at (after_letter a k x t)
    from-letter x l h (Ok ((c, u), n)) i =
        of_fit (fit_in c k)
      where
        of_fit : (f : Option Form) → SpecifierIn (length s) at (fitted a x c u n f)
        of_fit (Some f) = (omega arith, omega arith)
        of_fit None = tt
    from-letter x l h (Err n) i = tt

    from_parts : (t : Parsed Parts) → PartsOn at t → SpecifierIn (length s) at (after_parts s a k t)
    from_parts (Ok (x, l)) i = from-letter x l i (letter_at s l) (letter_in s l)
    from_parts (Err n) i = tt

    pub specifier_in : SpecifierIn (length s) at (specifier_at s at a k)
    unfolding specifier_at
    specifier_in = from_parts (parts_at s at) parts_on
