-- The argument that an element takes. 01, "A format checked".
use Rattle.std.specs.Prelude.{ℕ, ◌+◌, Bool, false, ◌&&◌, List, leb, eqb, length, drop, Err, Ok, Result}
use Prim.Native.Char.{code}
use Rattle.writing.specs.Choose.{choose}
use Rattle.specifiers.specs.Params.{is_param, leading_digits, number_at}
use Rattle.specifiers.specs.Specifier.{begins_with}
use Rattle.parsing.specs.declared.arguments.Index.{Index}
use Rattle.refusals.specs.Numbers.{Parsed}
use Rattle.refusals.specs.declared.Refusal.{Refusal}
use Rattle.refusals.specs.declared.Refusal.TheVariants.{NoElementBefore, NoIndex, NoSuchArgument}

-- The argument a of an element, the place behind its index, and the running count. 7 for an "argument index above the count of kinds".
abbrev pub among_kinds : ℕ → ℕ → ℕ → ℕ → Result Index Refusal
among_kinds kinds a next count =
    choose (leb a kinds) (λ _. Ok (record { argument = a; next = next; count = count })) (λ _. Err NoSuchArgument)

-- "Digits from 1 to 9 onward and then `$` name the argument. Otherwise a running count rises by one and names it, and those digits are judged only
-- as a width". These digits may be a number that is too large.
abbrev pub index_of : Parsed ℕ → ℕ → ℕ → Result Index Refusal
index_of (Ok (n, next)) kinds count = among_kinds kinds n (next + 1) count
index_of (Err r) kinds count = Err r

abbrev pub is_index : List ℕ → ℕ → Bool
is_index s at = is_param false (drop at s) && begins_with (code "$") (drop (at + length (leading_digits (drop at s))) s)

-- 5 for `%$`.
unfoldable pub index_at : List ℕ → ℕ → ℕ → ℕ → Result Index Refusal
index_at s kinds at count =
    choose (begins_with (code "$") (drop at s)) (λ _. Err NoIndex)
    (λ _. choose (is_index s at) (λ _. index_of (number_at s at) kinds count) (λ _. among_kinds kinds (count + 1) at (count + 1)))

-- "`%<` takes the argument of the last element read without `<`, and changes no count": 4 before any element.
abbrev pub same_index : ℕ → ℕ → ℕ → ℕ → Result Index Refusal
same_index kinds last next count = choose (eqb last 0) (λ _. Err NoElementBefore) (λ _. among_kinds kinds last next count)
