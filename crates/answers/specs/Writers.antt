-- What the writer of an accepted call's answer answers and leaves. The entry's contract does not speak of this.
use Rattle.std.specs.Prelude.{ℕ, List, length, Ok}
use Rattle.writing.specs.Writers.{Wrote}
use Rattle.answers.specs.Answers.{outcome_text}

-- The answer over the start of d, of a text and its ends: their lengths are the length and the number of pieces.
abbrev pub WroteAccepted : List ℕ → List ℕ → List ℕ → ℕ → List ℕ → Type 0
WroteAccepted d text ends r out = Wrote d (outcome_text (Ok (record { length = length text; pieces = length ends })) text ends) r out
