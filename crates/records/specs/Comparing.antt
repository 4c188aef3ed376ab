-- What a record states, compared with an answer field by field.
use Rattle.std.specs.Prelude.{ℕ, zero, suc, ◌+◌, ◌-◌, Bool, false, ◌&&◌, List, [], ◌∷◌, eqb, nat_eq, length, take, drop}
use Rattle.std.specs.Cmp.Lexicographic.{pointwise}
use Rattle.words.specs.LittleEndian.{word_at}
use Rattle.records.specs.declared.statements.Stated.{Stated}
use Rattle.records.specs.declared.statements.Stated.TheVariants.{Accepts, Prints, Refuses}

-- The part of a list from one offset up to another.
abbrev pub between : ℕ → ℕ → List ℕ → List ℕ
between from to s = take (to - from) (drop from s)

-- Whether two lists are the same.
abbrev pub same_list : List ℕ → List ℕ → Bool
same_list = pointwise nat_eq

-- So many numbers of four bytes, one behind the other from a place on.
unfoldable pub fours : List ℕ → ℕ → ℕ → List ℕ
fours s at zero = []
fours s at (suc k) = word_at 4 s at ∷ fours s (at + 4) k

-- That checking accepts, with so many pieces and this largest argument index.
abbrev pub states_accepted : Stated → ℕ → ℕ → Bool
states_accepted (Accepts p l) pieces largest = eqb pieces p && eqb largest l
states_accepted (Prints text end count) pieces largest = false
states_accepted (Refuses n p) pieces largest = false

-- That a call is refused with this number and place.
abbrev pub states_refused : Stated → ℕ → ℕ → Bool
states_refused (Accepts p l) number place = false
states_refused (Prints text end count) number place = false
states_refused (Refuses n p) number place = eqb number n && eqb place p

-- That printing accepts, with n bytes, so many pieces, this text and these ends.
abbrev pub states_printed : List ℕ → Stated → ℕ → ℕ → List ℕ → List ℕ → Bool
states_printed s (Accepts p l) n pieces text ends = false
states_printed s (Prints from to count) n pieces text ends =
    eqb n (to - from) && eqb pieces count && same_list text (between from to s) && same_list ends (fours s (to + 2) count)
states_printed s (Refuses number place) n pieces text ends = false

-- That printing accepts with this text and these ends, and as many bytes and pieces as these have.
abbrev pub states_whole : List ℕ → Stated → List ℕ → List ℕ → Bool
states_whole s stated text ends = states_printed s stated (length text) (length ends) text ends
