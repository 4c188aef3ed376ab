-- Where a byte from A on stands, no flag, width or precision does. Assumes nothing.
use Rattle.std.specs.Prelude.{None, Ok}
use mathlib.Core.Path.{◌≡◌, refl}
use mathlib.Core.Bool.{true, false}
use mathlib.Core.List.{List, [], ◌∷◌}
use Prim.Native.Nat.{ℕ, ◌≤◌}
use Prim.Native.Char.{code}
use native.Mathlib.Nat.{add-zero}
use native.Mathlib.Omega.{arith}
use lib.ListN.{drop}
use borrow.Author.Tests.{leb-true, ne_eqb, le-leb, lt-leb}
use Rattle.writing.specs.Text.{has}
use Rattle.writing.proofs.Bytes.{other}
use Rattle.specifiers.specs.Params.{is_param, param_at}
use Rattle.specifiers.specs.Flags.{is_flag, leading_flags, flags_of, first_clash, flags_at}
use Rattle.specifiers.specs.Specifier.{begins_with, precision_at, parts_at}
use Rattle.specifiers.specs.Steps.{begins_letter}

no_flag : (b : ℕ) → code "A" ≤ b → is_flag b ≡ false
unfolding has
no_flag b h =
    simp (
      other (code "#") b (λ e. omega arith),
      other (code "0") b (λ e. omega arith),
      other (code "-") b (λ e. omega arith),
      other (code " ") b (λ e. omega arith),
      other (code "+") b (λ e. omega arith),
      other (code ",") b (λ e. omega arith),
      other (code "(") b (λ e. omega arith),
    )

no_flags : (l : List ℕ) → begins_letter l ≡ true → leading_flags l ≡ []
unfolding leading_flags
no_flags [] h = refl
no_flags (b ∷ l) h = simp (no_flag b (leb-true (code "A") b h))

no_width : (l : List ℕ) → begins_letter l ≡ true → is_param false l ≡ false
no_width [] h = refl
no_width (b ∷ l) h =
    let k = leb-true (code "A") b h in
    simp (le-leb (code "0") b (omega arith), lt-leb b (code "9") (omega arith))

no_point : (l : List ℕ) → begins_letter l ≡ true → begins_with (code ".") l ≡ false
no_point [] h = refl
no_point (b ∷ l) h =
    let k = leb-true (code "A") b h in
    ne_eqb b (code ".") (λ e. omega arith)

pub no_parts : (s : List ℕ) (at : ℕ) → begins_letter (drop at s) ≡ true
    → parts_at s at ≡ Ok ((record { flags = flags_of []; width = None; precision = None }), at)
unfolding parts_at flags_at first_clash param_at precision_at
no_parts s at h = simp (no_flags (drop at s) h, add-zero at, no_width (drop at s) h, no_point (drop at s) h)
