-- The numbers of refusals. 01, "What stops a call": the table's order; 02, E1 and E4, add 18 and 19 to 21.
use Rattle.std.specs.Prelude.{ℕ, Result}
use Rattle.refusals.specs.declared.Refusal.{Refusal}
use Rattle.refusals.specs.declared.Refusal.TheVariants as R
use Rattle.refusals.specs.declared.Stop.{Stop}

abbrev pub refusal_number : Refusal → ℕ
refusal_number R.LongFormat = 1
refusal_number R.MalformedFormat = 2
refusal_number R.BadKinds = 3
refusal_number R.NoElementBefore = 4
refusal_number R.NoIndex = 5
refusal_number R.LargeNumber = 6
refusal_number R.NoSuchArgument = 7
refusal_number R.ZeroAfterMinus = 8
refusal_number R.PlusAndSpace = 9
refusal_number R.NoLetter = 10
refusal_number R.NoTimeLetter = 11
refusal_number R.UnfitLetter = 12
refusal_number R.ManyPieces = 13
refusal_number R.BrokenRow = 14
refusal_number R.NotPrinted = 15
refusal_number R.NoScalar = 16
refusal_number R.NoRoom = 17
refusal_number R.NoWholeSecond = 18
refusal_number R.GatePresent = 19
refusal_number R.GateAbsent = 20
refusal_number R.ListFull = 21

-- A refusal at a place: 01, "What stops a call", "Returned": "number, place".
abbrev pub stop : Refusal → ℕ → Stop
stop r at = record { refusal = r; place = at }

-- What a step of reading answers: what stands there and the place behind it, or why it is refused.
abbrev pub Parsed : Type 0 → Type 0
Parsed A = Result (A × ℕ) Refusal
