-- Where reading a format ends, over its bytes: behind its last part, or where it is stopped. For laws alone.
use Rattle.std.specs.Prelude.{ℕ, ◌≤◌, ◌<◌, ◌≡◌, List, [], ◌∷◌, length}
use Rattle.refusals.specs.Limits.{most_pieces}
use Rattle.grammar.specs.Parts.{Part, bytes_before}
use Rattle.grammar.specs.Elements.{Reads}
use Rattle.grammar.specs.Faults.{Fault}
use Rattle.refusals.specs.declared.Refusal.{Refusal}
use Rattle.refusals.specs.declared.Refusal.TheVariants.{ManyPieces}

-- A format that is made of these parts, the last of them first, and nothing else.
pub record Whole (s ks : List ℕ) (parts : List Part) : Type 0 where
  pub reads : Reads s ks parts []
  pub few : length parts ≤ most_pieces

-- The refusal and the place that stop it: "a 513th piece begins", or an element's fault. "Place is the offset of the element's `%`, for 13 where that piece
-- starts": so many bytes stand before it.
pub data StopsReading (s ks : List ℕ) : Refusal → ℕ → Type 0 where
  many : {before : List Part} {b : ℕ} {rest : List ℕ} → Reads s ks before (b ∷ rest) → length before ≡ most_pieces
      → StopsReading s ks ManyPieces (length (bytes_before before))
  fault : {before : List Part} {r : List ℕ} {refusal : Refusal} → Reads s ks before r → length before < most_pieces → Fault ks before r refusal
      → StopsReading s ks refusal (length (bytes_before before))
