-- The numbers that calls answer are those of the table. Assumes nothing.
use mathlib.Core.Path.{◌≡◌, refl}
use Rattle.refusals.specs.Numbers.{refusal_number}
use Rattle.refusals.specs.declared.Refusal.{Refusal}
use Rattle.refusals.specs.declared.Refusal.TheVariants as R
use Rattle.grammar.specs.Numbers.{table_number}

pub table_numbers : (r : Refusal) → table_number r ≡ refusal_number r
table_numbers R.LongFormat = refl
table_numbers R.MalformedFormat = refl
table_numbers R.BadKinds = refl
table_numbers R.NoElementBefore = refl
table_numbers R.NoIndex = refl
table_numbers R.LargeNumber = refl
table_numbers R.NoSuchArgument = refl
table_numbers R.ZeroAfterMinus = refl
table_numbers R.PlusAndSpace = refl
table_numbers R.NoLetter = refl
table_numbers R.NoTimeLetter = refl
table_numbers R.UnfitLetter = refl
table_numbers R.ManyPieces = refl
table_numbers R.BrokenRow = refl
table_numbers R.NotPrinted = refl
table_numbers R.NoScalar = refl
table_numbers R.NoRoom = refl
table_numbers R.NoWholeSecond = refl
table_numbers R.GatePresent = refl
table_numbers R.GateAbsent = refl
table_numbers R.ListFull = refl
