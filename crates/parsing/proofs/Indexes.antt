-- The argument that an element takes, named either way, is one of those that there are, and what follows stands behind its `%`. Assumes nothing.
use Rattle.std.specs.Prelude.{Ok}
use mathlib.Core.Path.{◌≡◌}
use mathlib.Core.List.{List}
use Prim.Native.Nat.{ℕ, ◌+◌, ◌≤◌}
use Prim.Native.Char.{code}
use native.Mathlib.Omega.{arith}
use lib.ListN.{drop}
use Rattle.writing.proofs.Choose.{by_test}
use Rattle.specifiers.specs.Specifier.{begins_with}
use Rattle.parsing.proofs.Named.{NamedIn, index_in, same_in}
use Rattle.parsing.specs.Pieces.{argument_at}
use Rattle.parsing.specs.declared.Cursor.{Cursor}
use Rattle.parsing.specs.declared.arguments.Index.{Index}

module _ (s : List ℕ) (kinds : ℕ) (c : Cursor) where
  pub argument_in_lem : NamedIn kinds (c.at + 1) (argument_at s kinds c)
  unfolding argument_at
  argument_in_lem =
      by_test (NamedIn kinds (c.at + 1)) (begins_with (code "<") (drop (c.at + 1) s)) _ _
      (λ _. same_in kinds (c.at + 1) c.last (c.at + 2) c.count (omega arith)) (λ _. index_in kinds (c.at + 1) s c.count)

  pub argument_named : (x : Index) → argument_at s kinds c ≡ Ok x → (1 ≤ x.argument) × (x.argument ≤ kinds) × (c.at + 1 ≤ x.next)
  argument_named x e = rw e at argument_in_lem
