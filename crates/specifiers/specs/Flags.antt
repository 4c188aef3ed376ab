-- Flags. 01: "Flags in any number and order: `# 0 - space + , (`. Repeats pass."
use Rattle.std.specs.Prelude.{ℕ, ◌+◌, Bool, ◌&&◌, ◌||◌, List, [], ◌∷◌, ◌++◌, eqb, length, drop, Option, None, Some, Ok, Err}
use Prim.Native.Char.{code}
use Rattle.writing.specs.Choose.{choose}
use Rattle.writing.specs.Text.{ascii, has}
use Rattle.refusals.specs.Numbers.{Parsed}
use Rattle.refusals.specs.declared.Refusal.{Refusal}
use Rattle.refusals.specs.declared.Refusal.TheVariants.{ZeroAfterMinus, PlusAndSpace}
use Rattle.specifiers.specs.declared.flags.Flags.{Flags}

abbrev pub is_flag : ℕ → Bool
is_flag b = has (ascii "#0- +,(") b

-- The flags that a text begins with, as they stand there.
unfoldable pub leading_flags : List ℕ → List ℕ
leading_flags [] = []
leading_flags (b ∷ bs) = choose (is_flag b) (λ _. b ∷ leading_flags bs) (λ _. [])

-- What they say.
abbrev pub flags_of : List ℕ → Flags
flags_of bs =
    record {
      alternate = has bs (code "#");
      zero = has bs (code "0");
      left = has bs (code "-");
      space = has bs (code " ");
      plus = has bs (code "+");
      grouping = has bs (code ",");
      parentheses = has bs (code "(");
    }

-- What refuses the flag b behind the flags before it. 01's table: 8 for "`0` after `-`", 9 for "both `+` and space".
abbrev pub clash : List ℕ → ℕ → Option Refusal
clash before b =
    choose (eqb b (code "0") && has before (code "-")) (λ _. Some ZeroAfterMinus)
    (λ _. choose ((eqb b (code "+") && has before (code " ")) || (eqb b (code " ") && has before (code "+"))) (λ _. Some PlusAndSpace) (λ _. None))

-- "in reading order": the first flag that clashes with one before it decides.
abbrev pub or_later : Option Refusal → (Unit {0} → Option Refusal) → Option Refusal
or_later (Some r) later = Some r
or_later None later = later tt

unfoldable pub first_clash : List ℕ → List ℕ → Option Refusal
first_clash before [] = None
first_clash before (b ∷ bs) = or_later (clash before b) (λ _. first_clash (before ++ (b ∷ [])) bs)

-- The flags from the place at on, and the place behind them.
abbrev pub flags_taken : Option Refusal → List ℕ → ℕ → Parsed Flags
flags_taken None bs at = Ok (flags_of bs, at + length bs)
flags_taken (Some r) bs at = Err r

unfoldable pub flags_at : List ℕ → ℕ → Parsed Flags
flags_at s at = flags_taken (first_clash [] (leading_flags (drop at s))) (leading_flags (drop at s)) at
