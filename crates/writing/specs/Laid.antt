-- What a lent slice holds after a text was written at its start.
use Rattle.std.specs.Prelude.{ℕ, List, ◌++◌, length, drop}

-- 01, "Bytes and ends past the last piece keep their content": the text t over the start of d, and the rest of d as it was.
unfoldable pub laid : List ℕ → List ℕ → List ℕ
laid d t = t ++ drop (length t) d
