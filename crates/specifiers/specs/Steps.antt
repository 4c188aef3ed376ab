-- Steps of the code that no contract of an entry speaks of: one flag, and the quick test for a letter.
use Rattle.std.specs.Prelude.{ℕ, Bool, false, List, [], ◌∷◌, ◌++◌, leb, Option, None, Some, Result, Ok, Err}
use Prim.Native.Char.{code}
use Rattle.writing.specs.Choose.{choose}
use Rattle.refusals.specs.declared.Refusal.{Refusal}
use Rattle.specifiers.specs.Flags.{is_flag, flags_of, clash}
use Rattle.specifiers.specs.declared.flags.Flags.{Flags}

-- What the byte b does to the flags before it: one more is set, or it is no flag, or it clashes.
abbrev pub unless_clash : Option Refusal → Flags → Result (Option Flags) Refusal
unless_clash None f = Ok (Some f)
unless_clash (Some r) f = Err r

abbrev pub step_of : List ℕ → ℕ → Result (Option Flags) Refusal
step_of before b = choose (is_flag b) (λ _. unless_clash (clash before b) (flags_of (before ++ (b ∷ [])))) (λ _. Ok None)

-- Whether a text begins with a byte from A on: no flag, digit or `.` does.
abbrev pub begins_letter : List ℕ → Bool
begins_letter [] = false
begins_letter (b ∷ bs) = leb (code "A") b
