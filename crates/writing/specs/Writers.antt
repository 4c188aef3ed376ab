-- What the writers answer and leave. No contract of an entry speaks of these.
use Rattle.std.specs.Prelude.{ℕ, ◌≡◌, List, leb, length}
use Rattle.writing.specs.Choose.{choose}
use Rattle.writing.specs.Laid.{laid}

-- The text t laid over the start of d where there is room for it; else d as it was.
unfoldable pub laid_if_room : List ℕ → List ℕ → List ℕ
laid_if_room d t = choose (leb (length t) (length d)) (λ _. laid d t) (λ _. d)

-- What a function named write_ answers and leaves in d, of the text t, for which it has room.
abbrev pub Wrote : List ℕ → List ℕ → ℕ → List ℕ → Type 0
Wrote d t r out = (r ≡ length t) × (out ≡ laid d t)

-- What a function named put_ answers and leaves in d, of the text t.
abbrev pub Put : List ℕ → List ℕ → ℕ → List ℕ → Type 0
Put d t r out = (r ≡ length t) × (out ≡ laid_if_room d t)
