-- The causes of 01's table that lie in an element, over the bytes. For laws alone.
use Rattle.std.specs.Prelude.{ℕ, ◌<◌, ◌≡◌, true, false, List, ◌∷◌, ◌++◌, length, None}
use Prim.Native.Char.{code}
use Rattle.refusals.specs.Limits.{largest_number}
use Rattle.writing.specs.Text.{ascii, has}
use Rattle.specifiers.specs.Params.{is_digit}
use Rattle.grammar.specs.Runs.{begins, Run, number_in}
use Rattle.grammar.specs.Parts.{Written, Part, last_named}
use Rattle.grammar.specs.Elements.{IsIndex, Begun, Named, Flagged, Wide, Precise, Lettered, is_flag, Clash, Free, letters, time_letters, kind_at, fits_bytes}
use Rattle.refusals.specs.declared.Refusal.{Refusal}
use Rattle.refusals.specs.declared.Refusal.TheVariants.{LargeNumber, NoElementBefore, NoIndex, NoLetter, NoSuchArgument, NoTimeLetter, UnfitLetter}

-- What is wrong, behind the parts `before`, with the element whose `%` begins the bytes r, in the order of reading; w is the element as far as it is read.
pub data Fault (ks : List ℕ) (before : List Part) (r : List ℕ) : Refusal → Type 0 where
  -- "`%<` before any element"
  no_element : (rest : List ℕ) → r ≡ ascii "%<" ++ rest → last_named before ≡ None → Fault ks before r NoElementBefore
  -- "`%$`"
  no_index : (rest : List ℕ) → r ≡ ascii "%$" ++ rest → Fault ks before r NoIndex
  -- "number above 2,147,483,647": an index, a width, a precision
  large_index : (ds rest : List ℕ) → r ≡ code "%" ∷ (ds ++ (code "$" ∷ rest)) → IsIndex ds → largest_number < number_in ds → Fault ks before r LargeNumber
  -- "argument index above the count of kinds"
  above : {w : Written} {rest : List ℕ} → Begun before r w rest → length ks < w.argument → Fault ks before r NoSuchArgument
  -- "`0` after `-`", "both `+` and space": the first flag that offends against one before it
  clash : {w : Written} {rest f : List ℕ} {b : ℕ} {refusal : Refusal} (g : List ℕ) → Named (length ks) before r w (w.flags ++ rest) → Run is_flag w.flags rest
      → w.flags ≡ f ++ (b ∷ g) → Free f → Clash f b refusal → Fault ks before r refusal
  large_width : {w : Written} {rest : List ℕ} → Flagged (length ks) before r w (w.width ++ rest) → Run is_digit w.width rest
      → largest_number < number_in w.width → Fault ks before r LargeNumber
  large_precision : {w : Written} {ds rest : List ℕ} → Wide (length ks) before r w (code "." ∷ (ds ++ rest)) → Run is_digit ds rest
      → largest_number < number_in ds → Fault ks before r LargeNumber
  -- "no such letter, or end"
  no_letter : {w : Written} {rest : List ℕ} → Precise (length ks) before r w rest → begins (has (letters ++ ascii "tT")) rest ≡ false
      → Fault ks before r NoLetter
  -- "no such time letter, or end"
  no_time_letter : {w : Written} {t : ℕ} {rest : List ℕ} → Precise (length ks) before r w (t ∷ rest) → has (ascii "tT") t ≡ true
      → begins (has time_letters) rest ≡ false → Fault ks before r NoTimeLetter
  -- "letter does not fit the kind"
  no_fit : {w : Written} {rest : List ℕ} → Lettered (length ks) before r w rest → fits_bytes w.letter (kind_at ks w.argument) ≡ false
      → Fault ks before r UnfitLetter
