-- The next piece of a format from a cursor on. 01, "A format checked".
use Rattle.std.specs.Prelude.{ℕ, ◌+◌, ◌-◌, List, length, get_or, drop, Err, Ok, Result}
use Prim.Native.Char.{code}
use Rattle.writing.specs.Choose.{choose}
use Rattle.kinds.specs.Kinds.{kind_in}
use Rattle.specifiers.specs.Specifier.{begins_with, specifier_at}
use Rattle.parsing.specs.Indexes.{index_at, same_index}
use Rattle.parsing.specs.declared.arguments.Index.{Index}
use Rattle.parsing.specs.Texts.{text_length}
use Rattle.parsing.specs.declared.Piece.TheVariants.{Fixed, Byte, Element as AnElement}
use Rattle.parsing.specs.declared.Cursor.{Cursor}
use Rattle.refusals.specs.Numbers.{Parsed}
use Rattle.refusals.specs.declared.Refusal.{Refusal}
use Rattle.specifiers.specs.declared.Element.{Element}
use Rattle.parsing.specs.declared.Piece.{Piece}

-- The piece at a cursor and the cursor behind it, or what refuses it; its place is the cursor's.
abbrev pub Step : Type 0
Step = Result (Piece × Cursor) Refusal

-- Before the first piece: no argument counted, none used.
abbrev pub start : Cursor
start = record { at = 0; count = 0; last = 0 }

-- Behind a piece that uses no argument.
abbrev pub passed : Cursor → ℕ → Cursor
passed c at = record { at = at; count = c.count; last = c.last }

-- The argument of an element named either way, the cursor standing at its `%`.
unfoldable pub argument_at : List ℕ → ℕ → Cursor → Result Index Refusal
argument_at s kinds c =
    choose (begins_with (code "<") (drop (c.at + 1) s)) (λ _. same_index kinds c.last (c.at + 2) c.count)
    (λ _. index_at s kinds (c.at + 1) c.count)

-- An element: its argument, and what stands behind the index.
abbrev pub after_specifier : ℕ → ℕ → Parsed Element → Step
after_specifier a count (Ok (e, at)) = Ok (AnElement e, record { at = at; count = count; last = a })
after_specifier a count (Err refusal) = Err refusal

abbrev pub after_index : List ℕ → List ℕ → Result Index Refusal → Step
after_index s ks (Ok i) = after_specifier i.argument i.count (specifier_at s i.next i.argument (kind_in (get_or ks (i.argument - 1) 0)))
after_index s ks (Err refusal) = Err refusal

unfoldable pub element_at : List ℕ → List ℕ → Cursor → Step
element_at s ks c = after_index s ks (argument_at s (length ks) c)

-- "`%%` is a piece holding one `%`, `%n` a piece holding byte 10; neither uses an argument."
abbrev pub after_percent : List ℕ → List ℕ → Cursor → List ℕ → Step
after_percent s ks c bs =
    choose (begins_with (code "%") bs) (λ _. Ok (Fixed (c.at + 1) 1, passed c (c.at + 2)))
    (λ _. choose (begins_with (code "n") bs) (λ _. Ok (Byte 10, passed c (c.at + 2))) (λ _. element_at s ks c))

unfoldable pub piece_at : List ℕ → List ℕ → Cursor → Step
piece_at s ks c =
    choose (begins_with (code "%") (drop c.at s)) (λ _. after_percent s ks c (drop (c.at + 1) s))
    (λ _. Ok (Fixed c.at (text_length (drop c.at s)), passed c (c.at + text_length (drop c.at s))))
