-- The pieces of a format in order, each with the part of the format that it takes up, and where reading them ends.
use Rattle.std.specs.Prelude.{ℕ, zero, suc, List, [], ◌∷◌, ltb, length, Err, Ok, Result}
use Rattle.refusals.specs.Limits.{most_pieces}
use Rattle.writing.specs.Choose.{choose}
use Rattle.parsing.specs.Pieces.{Step, start, piece_at}
use Rattle.parsing.specs.declared.Piece.{Piece}
use Rattle.parsing.specs.declared.Cursor.{Cursor}
use Rattle.refusals.specs.Numbers.{stop}
use Rattle.refusals.specs.declared.Refusal.TheVariants.{ManyPieces}
use Rattle.refusals.specs.declared.Stop.{Stop}

-- A piece that stands in the format from one offset up to another.
pub record Placed : Type 0 where
  pub piece : Piece
  pub from : ℕ
  pub to : ℕ

-- The pieces from a cursor on, at most n of them, up to a refusal or the end of the `size` bytes; `step` is the piece at a cursor.
abbrev pub and_rest : Step → Cursor → (Cursor → List Placed) → List Placed
and_rest (Ok (p, next)) c rest = record { piece = p; from = c.at; to = next.at } ∷ rest next
and_rest (Err refusal) c rest = []

unfoldable pub placed_from : ℕ → (Cursor → Step) → ℕ → Cursor → List Placed
placed_from zero step size c = []
placed_from (suc n) step size c =
    choose (ltb c.at size) (λ _. and_rest (step c) c (λ next. placed_from n step size next)) (λ _. [])

-- Where reading ends: behind the last piece, or at a refusal.
abbrev pub Ended : Type 0
Ended = Result (Unit {0}) Stop

-- Behind the last byte, or at the first refusal, whose place is where that piece begins. 13 comes before the piece is looked at.
abbrev pub after_step : Step → Cursor → (Cursor → Ended) → Ended
after_step (Ok (p, next)) c rest = rest next
after_step (Err refusal) c rest = Err (stop refusal c.at)

unfoldable pub end_from : ℕ → (Cursor → Step) → ℕ → Cursor → Ended
end_from zero step size c = choose (ltb c.at size) (λ _. Err (stop ManyPieces c.at)) (λ _. Ok tt)
end_from (suc n) step size c =
    choose (ltb c.at size) (λ _. after_step (step c) c (λ next. end_from n step size next)) (λ _. Ok tt)

-- Of a format s against kinds ks.
unfoldable pub placed : List ℕ → List ℕ → List Placed
placed s ks = placed_from most_pieces (piece_at s ks) (length s) start

unfoldable pub ended : List ℕ → List ℕ → Ended
ended s ks = end_from most_pieces (piece_at s ks) (length s) start
