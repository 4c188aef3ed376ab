-- Laws of the widths of integer kinds: one that a byte names is from 1 to 64. Assumes nothing.
use Rattle.std.proofs.Common.{ℕ, eqb, List, [], ◌∷◌, arith, Some, None}
use Rattle.writing.proofs.Choose.{by_test}
use Rattle.kinds.specs.Kinds.{kinds, kind_of}
use Rattle.kinds.specs.Letters.{lookup}
use Rattle.kinds.specs.declared.Kind.{Kind}
use Rattle.rows.specs.Widths.{HasWidth}

-- of every row of a table
abbrev AllWide : List (ℕ × Kind) → Type 0
AllWide [] = Unit {0}
AllWide (r ∷ rows) = HasWidth (Some r.1) × AllWide rows

table : (rows : List (ℕ × Kind)) (b : ℕ) → AllWide rows → HasWidth (lookup (λ k. k) Some None rows b)
table [] b w = tt
table (r ∷ rows) b w = by_test HasWidth (eqb b r.0) _ _ (λ _. w.0) (λ _. table rows b w.1)

pub has_width : (b : ℕ) → HasWidth (kind_of b)
unfolding kind_of
has_width b =
    table kinds b
    ((omega arith, omega arith), ((omega arith, omega arith), ((omega arith, omega arith), ((omega arith, omega arith), (tt, (tt, (tt, (tt, tt))))))))
