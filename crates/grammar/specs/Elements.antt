-- What it is to stand in a format, part by part, each run as long as it can be. 01, "A format checked". For laws alone.
use Rattle.std.specs.Prelude.{ℕ, suc, ◌-◌, ◌≤◌, ◌≡◌, Bool, true, false, not, ◌&&◌, ◌||◌, List, [], ◌∷◌, ◌++◌, eqb, length, get_or, Option, None, Some}
use Prim.Native.Char.{code}
use Rattle.refusals.specs.Limits.{largest_number}
use Rattle.writing.specs.Text.{ascii, has}
use Rattle.kinds.specs.Kinds.{unmarked}
use Rattle.specifiers.specs.Params.{is_digit}
use Rattle.grammar.specs.Runs.{begins, all, Run, number_in}
use Rattle.grammar.specs.Parts.{Choice, same, index, counted, choice_bytes, Written, precision_bytes}
use Rattle.grammar.specs.Parts.{Part, text, percent, newline, element, counted_in, last_named}
use Rattle.refusals.specs.declared.Refusal.{Refusal}
use Rattle.refusals.specs.declared.Refusal.TheVariants.{PlusAndSpace, ZeroAfterMinus}

-- "Digits from 1 to 9 onward"
pub record IsIndex (ds : List ℕ) : Type 0 where
  pub digits : all is_digit ds ≡ true
  pub first : begins is_digit ds ≡ true
  pub not_zero : begins (has (ascii "0")) ds ≡ false

-- Bytes behind a `%` that name no argument, so that the running count does: they do not begin with `%`, `n`, `<` or `$`, nor with an index and `$`.
pub record NoChoice (rest : List ℕ) : Type 0 where
  pub other : begins (has (ascii "%n<$")) rest ≡ false
  pub no_index : (ds more : List ℕ) → IsIndex ds → rest ≡ ds ++ (code "$" ∷ more) → ⊥

-- How an element behind the parts `before` names the argument a, if the bytes `rest` follow. "`%<` takes the argument of the last element read without
-- `<`"; "Digits .. and then `$` name the argument. Otherwise a running count rises by one and names it".
pub data Names (before : List Part) : Choice → List ℕ → ℕ → Type 0 where
  by_last : {a : ℕ} {rest : List ℕ} → last_named before ≡ Some a → Names before same rest a
  by_index : {ds rest : List ℕ} → IsIndex ds → number_in ds ≤ largest_number → Names before (index ds) rest (number_in ds)
  by_count : {rest : List ℕ} → NoChoice rest → Names before counted rest (suc (counted_in before))

-- An element w that begins where the bytes r stand is read section by section; `rest` is what is left behind each. First its `%` and its choice of an argument.
pub record Begun (before : List Part) (r : List ℕ) (w : Written) (rest : List ℕ) : Type 0 where
  pub bytes : r ≡ code "%" ∷ (choice_bytes w.choice ++ rest)
  pub names : Names before w.choice rest w.argument

-- The argument is one of the n kinds.
pub record Named (n : ℕ) (before : List Part) (r : List ℕ) (w : Written) (rest : List ℕ) : Type 0 where
  pub begun : Begun before r w rest
  pub exists : w.argument ≤ n

-- "Flags in any number and order: `# 0 - space + , (`". (This list, like those of the letters, is written out here once more, apart from the parser's.)
abbrev pub is_flag : ℕ → Bool
is_flag b = has (ascii "#0- +,(") b

-- A flag that offends against one before it: 8 "`0` after `-`", 9 "both `+` and space".
pub data Clash (before : List ℕ) (b : ℕ) : Refusal → Type 0 where
  zero_after_minus : b ≡ code "0" → has before (code "-") ≡ true → Clash before b ZeroAfterMinus
  plus_after_space : b ≡ code "+" → has before (code " ") ≡ true → Clash before b PlusAndSpace
  space_after_plus : b ≡ code " " → has before (code "+") ≡ true → Clash before b PlusAndSpace

-- No flag offends.
abbrev pub Free : List ℕ → Type 0
Free flags = (before : List ℕ) (b : ℕ) (after : List ℕ) (refusal : Refusal) → flags ≡ before ++ (b ∷ after) → Clash before b refusal → ⊥

-- Behind its flags.
pub record Flagged (n : ℕ) (before : List Part) (r : List ℕ) (w : Written) (rest : List ℕ) : Type 0 where
  pub named : Named n before r w (w.flags ++ rest)
  pub run : Run is_flag w.flags rest
  pub free : Free w.flags

-- Behind its width: "digits not starting with 0, or absent" (a 0 there is a flag).
pub record Wide (n : ℕ) (before : List Part) (r : List ℕ) (w : Written) (rest : List ℕ) : Type 0 where
  pub flagged : Flagged n before r w (w.width ++ rest)
  pub run : Run is_digit w.width rest
  pub small : number_in w.width ≤ largest_number

-- Behind its precision: "Then `.` with digits or with none".
pub data PrecisionRun : Option (List ℕ) → List ℕ → Type 0 where
  absent : {rest : List ℕ} → begins (has (ascii ".")) rest ≡ false → PrecisionRun None rest
  given : {ds rest : List ℕ} → Run is_digit ds rest → number_in ds ≤ largest_number → PrecisionRun (Some ds) rest

pub record Precise (n : ℕ) (before : List Part) (r : List ℕ) (w : Written) (rest : List ℕ) : Type 0 where
  pub wide : Wide n before r w (precision_bytes w.precision ++ rest)
  pub run : PrecisionRun w.precision rest

-- Behind its letter: "b B h H s S c C d o x X e E f g G a A, or t or T and one of the 30 letters of `TimeFormat`, with `h` read as `b`".
abbrev pub letters : List ℕ
letters = ascii "bBhHsScCdoxXeEfgGaA"

abbrev pub time_letters : List ℕ
time_letters = ascii "HIklMSLNpzZsQBbhAaCYyjmdeRTrDFc"

pub data IsLetter : List ℕ → Type 0 where
  plain : {l : ℕ} → has letters l ≡ true → IsLetter (l ∷ [])
  time : {t l : ℕ} → has (ascii "tT") t ≡ true → has time_letters l ≡ true → IsLetter (t ∷ l ∷ [])

pub record Lettered (n : ℕ) (before : List Part) (r : List ℕ) (w : Written) (rest : List ℕ) : Type 0 where
  pub precise : Precise n before r w (w.letter ++ rest)
  pub letter : IsLetter w.letter

-- The letter fits the kind, which is one of 1 to 8, by its byte without a null mark: "b needs 6; c, d, o, x need 1 to 4; e, f, g, a need 1 to 5; .. s and h
-- take all. Capitals likewise." 02, E1: "Kind 8 fits t, T, s and h".
abbrev pub kinds : List ℕ
kinds = 1 ∷ 2 ∷ 3 ∷ 4 ∷ 5 ∷ 6 ∷ 7 ∷ 8 ∷ []

abbrev pub needs : List (List ℕ × List ℕ)
needs =
    (ascii "bB", 6 ∷ [])
    ∷ (ascii "cCdoxX", 1 ∷ 2 ∷ 3 ∷ 4 ∷ [])
    ∷ (ascii "eEfgGaA", 1 ∷ 2 ∷ 3 ∷ 4 ∷ 5 ∷ [])
    ∷ (ascii "tT", 8 ∷ [])
    ∷ (ascii "sShH", kinds)
    ∷ []

abbrev pub in_table : List (List ℕ × List ℕ) → ℕ → ℕ → Bool
in_table [] l k = false
in_table (row ∷ rows) l k = (has row.0 l && has row.1 k) || in_table rows l k

abbrev pub kind_at : List ℕ → ℕ → ℕ
kind_at ks a = unmarked (get_or ks (a - 1) 0)

abbrev pub fits_bytes : List ℕ → ℕ → Bool
fits_bytes [] k = false
fits_bytes (l ∷ more) k = in_table needs l k

-- A part that stands where the bytes r do, up to what is left of these, behind the parts `before`, for these kinds.
pub data Stands (ks : List ℕ) (before : List Part) : List ℕ → Part → List ℕ → Type 0 where
  is_text_part : {t rest : List ℕ} → begins (λ b. not (eqb b (code "%"))) t ≡ true → Run (λ b. not (eqb b (code "%"))) t rest
      → Stands ks before (t ++ rest) (text t) rest
  is_percent : {rest : List ℕ} → Stands ks before (ascii "%%" ++ rest) percent rest
  is_newline : {rest : List ℕ} → Stands ks before (ascii "%n" ++ rest) newline rest
  is_element : {r rest : List ℕ} {w : Written} → Lettered (length ks) before r w rest → fits_bytes w.letter (kind_at ks w.argument) ≡ true
      → Stands ks before r (element w) rest

-- Parts that stand in the format s one behind the other from its first byte on, the last of them first, and what is left of it behind them.
pub data Reads (s ks : List ℕ) : List Part → List ℕ → Type 0 where
  nothing : Reads s ks [] s
  one : {before : List Part} {r : List ℕ} {p : Part} {rest : List ℕ} → Reads s ks before r → Stands ks before r p rest → Reads s ks (p ∷ before) rest
