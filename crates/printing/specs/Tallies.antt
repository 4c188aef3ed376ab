-- What the pieces of a format add up to, and what they leave of output and ends: for the contracts of the steps of this crate.
-- Nothing in the promises of checking, measuring and printing speaks of these.
use Rattle.std.specs.Prelude.{ℕ, ◌+◌, ◌-◌, ◌*◌, ◌%◌, ◌^◌, ◌≤◌, min, List, [], ◌∷◌, ◌++◌, map, leb, length, take, set, Err, Ok, Result}
use Rattle.writing.specs.Choose.{choose}
use Rattle.writing.specs.Laid.{laid}
use Rattle.parsing.specs.Listed.{Placed, Ended}
use Rattle.parsing.specs.declared.Piece.{Piece}
use Rattle.elements.specs.Texts as T
use Rattle.elements.specs.Sizes.{size_of, Size}
use Rattle.elements.specs.PieceTexts.{shown_piece}
use Rattle.outcomes.specs.Printed.{ends_from, Outcome}
use Rattle.refusals.specs.Numbers.{stop}
use Rattle.refusals.specs.declared.Stop.{Stop}

-- A pass, piece by piece: the length so far, or the first piece that is not printed.
abbrev pub Tally : Type 0
Tally = Result ℕ Stop

abbrev pub add_size : ℕ → ℕ → Size → Tally
add_size n place (Ok m) = Ok (n + m)
add_size n place (Err refusal) = Err (stop refusal place)

abbrev pub added : ℕ → Size → Tally → Tally
added place size (Ok n) = add_size n place size
added place size (Err t) = Err t

abbrev pub counted : List ℕ → List ℕ → Piece → ℕ → Tally → Tally
counted s row p place t = added place (size_of (shown_piece s row p)) t

-- All pieces in turn, after a tally.
unfoldable pub tallied : List ℕ → List ℕ → Tally → List Placed → Tally
tallied s row t [] = t
tallied s row t (p ∷ ps) = tallied s row (counted s row p.piece p.from t) ps

-- What a pass answers: where reading ends comes before the first piece that is not printed.
abbrev pub outcome_of : Ended → Tally → ℕ → Outcome
outcome_of (Err stopped) t k = Err stopped
outcome_of (Ok end) (Ok n) k = Ok (record { length = n; pieces = k })
outcome_of (Ok end) (Err t) k = Err t

-- The length of k pieces is far below what 64 bits hold.
abbrev pub TallyBelow : ℕ → Tally → Type 0
TallyBelow k (Ok n) = n ≤ k * 2 ^ 42
TallyBelow k (Err t) = Unit {0}

-- The texts of pieces up to the first that is not printed.
abbrev pub up_to : T.Shown → List (List ℕ) → List (List ℕ)
up_to (T.Text t) others = t ∷ others
up_to (T.Stops refusal) others = []

unfoldable pub shown_texts : List ℕ → List ℕ → List Placed → List (List ℕ)
shown_texts s row [] = []
shown_texts s row (p ∷ ps) = up_to (shown_piece s row p.piece) (shown_texts s row ps)

-- Texts one behind the other, up to the first that has no room.
unfoldable pub fitting : ℕ → List (List ℕ) → List ℕ
fitting room [] = []
fitting room (t ∷ ts) = choose (leb (length t) room) (λ _. t ++ fitting (room - length t) ts) (λ _. [])

-- Their ends, each in 32 bits, as many as there are slots; whether the text has room does not matter.
abbrev pub low_ends : ℕ → List (List ℕ) → List ℕ
low_ends slots ts = take slots (map (λ n. n % 4294967296) (ends_from 0 ts))

-- What texts leave of d, and their ends of e.
abbrev pub laid_texts : List (List ℕ) → List ℕ → List ℕ
laid_texts ts d = laid d (fitting (length d) ts)

abbrev pub laid_ends : List (List ℕ) → List ℕ → List ℕ
laid_ends ts e = laid e (low_ends (length e) ts)

-- Where the next piece goes: behind the length so far, or nowhere.
abbrev pub behind : Tally → ℕ → ℕ
behind (Ok n) room = min n room
behind (Err t) room = room

-- The k-th end, in 32 bits.
abbrev pub with_end : ℕ → Tally → List ℕ → List ℕ
with_end k (Ok n) e = set e k (n % 4294967296)
with_end k (Err t) e = e

-- One text behind the length so far where it has room there; else d as it was.
abbrev pub laid_behind : Tally → List ℕ → List ℕ → List ℕ
laid_behind (Ok n) d t = choose (leb (n + length t) (length d)) (λ _. laid d (take n d ++ t)) (λ _. d)
laid_behind (Err stopped) d t = d
