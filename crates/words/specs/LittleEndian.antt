-- Numbers as bytes, the low byte first. 01: "All little-endian"; "4 little-endian bytes each".
use Rattle.std.specs.Prelude.{ℕ, zero, suc, ◌+◌, ◌*◌, ◌/◌, ◌%◌, List, [], ◌∷◌, ◌++◌, take, drop}

-- The number of little-endian bytes.
unfoldable pub little_endian : List ℕ → ℕ
little_endian [] = 0
little_endian (b ∷ bs) = b + 256 * little_endian bs

-- The number of k bytes of s from the place at on.
unfoldable pub word_at : ℕ → List ℕ → ℕ → ℕ
word_at k s at = little_endian (take k (drop at s))

-- k little-endian bytes of n.
abbrev pub bytes_of : ℕ → ℕ → List ℕ
bytes_of zero n = []
bytes_of (suc k) n = n % 256 ∷ bytes_of k (n / 256)

-- "4 little-endian bytes each"
unfoldable pub all_bytes : List ℕ → List ℕ
all_bytes [] = []
all_bytes (n ∷ ns) = bytes_of 4 n ++ all_bytes ns
