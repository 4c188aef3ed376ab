-- 01's table, "What stops a call", column "No.", written out once more from 01, and from 02 for E1 (18) and E4 (19 to 21): not shared with what a call
-- answers. For laws alone.
use Rattle.std.specs.Prelude.{ℕ}
use Rattle.refusals.specs.declared.Refusal.{Refusal}
use Rattle.refusals.specs.declared.Refusal.TheVariants as R

abbrev pub table_number : Refusal → ℕ
table_number R.LongFormat = 1
table_number R.MalformedFormat = 2
table_number R.BadKinds = 3
table_number R.BrokenRow = 14
table_number R.NoElementBefore = 4
table_number R.NoIndex = 5
table_number R.LargeNumber = 6
table_number R.NoSuchArgument = 7
table_number R.ZeroAfterMinus = 8
table_number R.PlusAndSpace = 9
table_number R.NoLetter = 10
table_number R.NoTimeLetter = 11
table_number R.UnfitLetter = 12
table_number R.ManyPieces = 13
table_number R.NotPrinted = 15
table_number R.NoScalar = 16
table_number R.NoRoom = 17
table_number R.NoWholeSecond = 18
table_number R.GatePresent = 19
table_number R.GateAbsent = 20
table_number R.ListFull = 21
