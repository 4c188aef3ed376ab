-- Each refusal has a number of its own. Assumes nothing.
use Rattle.std.proofs.Common.{◌≡◌, ◌≤◌, arith, ℕ, true, false, Option, None, Some, List, [], ◌∷◌, refl, sym, ap, ◌∙◌}
use lib.Dec.{eqb}
use Rattle.refusals.specs.Numbers.{refusal_number}
use Rattle.refusals.specs.declared.Refusal.{Refusal}
use Rattle.refusals.specs.declared.Refusal.TheVariants as R

among : List Refusal → ℕ → Option Refusal
among [] n = None
among (r ∷ rs) n = elim (eqb (refusal_number r) n) [ true ↦ Some r | false ↦ among rs n ]

table : ℕ → Option Refusal
table =
    among
    (R.LongFormat ∷ R.MalformedFormat ∷ R.BadKinds ∷ R.NoElementBefore ∷ R.NoIndex ∷ R.LargeNumber ∷ R.NoSuchArgument ∷ R.ZeroAfterMinus
    ∷ R.PlusAndSpace ∷ R.NoLetter ∷ R.NoTimeLetter ∷ R.UnfitLetter ∷ R.ManyPieces ∷ R.BrokenRow ∷ R.NotPrinted ∷ R.NoScalar ∷ R.NoRoom
    ∷ R.NoWholeSecond ∷ R.GatePresent ∷ R.GateAbsent ∷ R.ListFull ∷ [])

found : (r : Refusal) → table (refusal_number r) ≡ Some r
unfolding table among
found R.LongFormat = refl
found R.MalformedFormat = refl
found R.BadKinds = refl
found R.NoElementBefore = refl
found R.NoIndex = refl
found R.LargeNumber = refl
found R.NoSuchArgument = refl
found R.ZeroAfterMinus = refl
found R.PlusAndSpace = refl
found R.NoLetter = refl
found R.NoTimeLetter = refl
found R.UnfitLetter = refl
found R.ManyPieces = refl
found R.BrokenRow = refl
found R.NotPrinted = refl
found R.NoScalar = refl
found R.NoRoom = refl
found R.NoWholeSecond = refl
found R.GatePresent = refl
found R.GateAbsent = refl
found R.ListFull = refl

pub number_tells : (m n : Refusal) → refusal_number m ≡ refusal_number n → m ≡ n
number_tells m n e = let q : Some m ≡ Some n = sym (found m) ∙ ap table e ∙ found n in cc

pub number_from_one : (r : Refusal) → (1 ≤ refusal_number r) × (refusal_number r ≤ 21)
number_from_one R.LongFormat = (omega arith, omega arith)
number_from_one R.MalformedFormat = (omega arith, omega arith)
number_from_one R.BadKinds = (omega arith, omega arith)
number_from_one R.NoElementBefore = (omega arith, omega arith)
number_from_one R.NoIndex = (omega arith, omega arith)
number_from_one R.LargeNumber = (omega arith, omega arith)
number_from_one R.NoSuchArgument = (omega arith, omega arith)
number_from_one R.ZeroAfterMinus = (omega arith, omega arith)
number_from_one R.PlusAndSpace = (omega arith, omega arith)
number_from_one R.NoLetter = (omega arith, omega arith)
number_from_one R.NoTimeLetter = (omega arith, omega arith)
number_from_one R.UnfitLetter = (omega arith, omega arith)
number_from_one R.ManyPieces = (omega arith, omega arith)
number_from_one R.BrokenRow = (omega arith, omega arith)
number_from_one R.NotPrinted = (omega arith, omega arith)
number_from_one R.NoScalar = (omega arith, omega arith)
number_from_one R.NoRoom = (omega arith, omega arith)
number_from_one R.NoWholeSecond = (omega arith, omega arith)
number_from_one R.GatePresent = (omega arith, omega arith)
number_from_one R.GateAbsent = (omega arith, omega arith)
number_from_one R.ListFull = (omega arith, omega arith)
