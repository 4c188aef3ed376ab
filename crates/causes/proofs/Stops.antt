-- The first piece that is not printed is the first element that is not printed, from left to right. Assumes nothing.
use Rattle.std.specs.Prelude.{Option, None, Some}
use mathlib.Core.Path.{◌≡◌, refl, sym, ap, ◌∙◌}
use mathlib.Core.Bool.{Bool, true, false}
use mathlib.Core.List.{List, [], ◌∷◌, ◌++◌}
use Prim.Native.Nat.{ℕ, ◌-◌}
use lib.IntN.{ℤ}
use lib.ListN.{get_or}
use Rattle.writing.specs.Text.{ascii, has}
use Rattle.writing.proofs.Choose.{both}
use Rattle.numerals.specs.Integers.{int_of}
use Rattle.kinds.specs.Kinds.{unmarked, kind_in, fit_in}
use Rattle.specifiers.specs.declared.Element.{Element}
use Rattle.parsing.specs.Listed.{Placed}
use Rattle.parsing.specs.declared.Piece.{Piece}
use Rattle.parsing.specs.declared.Piece.TheVariants.{Element as AnElement}
use Rattle.grammar.specs.Runs.{begins}
use Rattle.grammar.specs.Parts.{Written, Part, text, percent, newline, element}
use Rattle.grammar.specs.Elements.{kinds}
use Rattle.grammar.specs.Pieces.{ElementIs, PieceIs, Lists}
use Rattle.grammar.specs.Pieces as Q
use Rattle.grammar.proofs.Arguments.{OfElement, Each}
use Rattle.grammar.proofs.Letters.{never}
use Rattle.fields.specs.Cut.{cut_to}
use Rattle.rows.specs.Entry.{integer_in}
use Rattle.rows.specs.Row.{kinds_of, named_text, kind_byte_of, entry_at}
use Rattle.rows.specs.declared.entries.Entry.{Entry}
use Rattle.elements.specs.Texts.{element_text, stop_of}
use Rattle.elements.specs.PieceTexts.{shown_entry, shown_piece, piece_stop}
use Rattle.outcomes.specs.Printed.{stop_at, first_stop}
use Rattle.causes.specs.Causes.{is_printed, is_scalar_value, is_between_seconds, Unprinted, not_printed, no_scalar, no_whole_second}
use Rattle.causes.specs.Causes.{PartPrinted, AllPrinted, FirstUnprinted, here, earlier}
use Rattle.causes.proofs.Unprinted.{is_character, is_date, Shows, shows, stop, stops_15, stops_16, stops_18, goes_on}
use Rattle.refusals.specs.declared.Stop.{Stop}
use Rattle.refusals.specs.declared.Refusal.{Refusal}
use Rattle.refusals.specs.declared.Refusal.TheVariants as R
use Rattle.refusals.specs.Numbers.{stop as stop_with}

-- An element of a row whose kind is known, and is the one that it was read against.
pub record HasKind (row : List ℕ) (w : Written) : Type 0 where
  pub known : has kinds (unmarked (kind_byte_of row w.argument)) ≡ true
  pub in_row : get_or (kinds_of row) (w.argument - 1) 0 ≡ kind_byte_of row w.argument

module _ (s row : List ℕ) (e : Element) (w : Written) (is : ElementIs (kinds_of row) e w) (of_row : HasKind row w) where
  abbrev x : Entry
  x = entry_at row w.argument

  abbrev part : List ℕ
  part = cut_to e.precision (named_text row x)

  suits : fit_in e.conversion (kind_in (kind_byte_of row w.argument)) ≡ Some e.form
  suits = ap (λ (b : ℕ). fit_in e.conversion (kind_in b)) (sym of_row.in_row) ∙ is.form

  shown_so : Shows w.letter (unmarked (kind_byte_of row w.argument)) e.form
  shown_so = shows w.letter e.conversion (unmarked (kind_byte_of row w.argument)) e.form is.conversion of_row.known suits

  stop_so : piece_stop s row (AnElement e) ≡ stop e x part e.form
  unfolding shown_piece element_text
  stop_so = ap (λ (a : ℕ). stop_of (shown_entry row e (entry_at row a))) is.argument

  unprinted_stops : (n : Refusal) → Unprinted row w n → piece_stop s row (AnElement e) ≡ Some n
  unfolding entry_at
  unprinted_stops n (not_printed h) = stop_so ∙ stops_15 e x part e.form (sym shown_so.printed ∙ h)
  unprinted_stops n (no_scalar p c null z) =
      stop_so ∙ stops_16 e x part e.conversion e.form suits (sym shown_so.character ∙ simp (c, p)) null z
  unprinted_stops n (no_whole_second p t z) = stop_so ∙ stops_18 e x part e.form (sym shown_so.date ∙ simp (t, p)) z

  printed_goes : ((n : Refusal) → Unprinted row w n → ⊥) → piece_stop s row (AnElement e) ≡ None
  unfolding entry_at
  printed_goes none_of = stop_so ∙ goes_on e x part e.conversion e.form suits (sym shown_so.printed ∙ printed) scalar whole
    where
      printed : is_printed row w ≡ true
      printed = go (is_printed row w) refl
        where
          go : (t : Bool) → is_printed row w ≡ t → t ≡ true
          go true q = refl
          go false q = absurd (none_of R.NotPrinted (not_printed q))

      scalar : is_character e.form ≡ true → x.null ≡ false → is_scalar_value (integer_in x) ≡ true
      scalar c null =
          go (is_scalar_value (integer_in x)) refl (both (begins (has (ascii "cC")) w.letter) (is_printed row w) (shown_so.character ∙ c)).0
        where
          go : (t : Bool) → is_scalar_value (integer_in x) ≡ t → begins (has (ascii "cC")) w.letter ≡ true → t ≡ true
          go true q b = refl
          go false q b = absurd (none_of R.NoScalar (no_scalar printed b null q))

      whole : is_date e.form ≡ true → is_between_seconds (int_of 64 x.value) ≡ false
      whole d =
          go (is_between_seconds (int_of 64 x.value)) refl (both (begins (has (ascii "tT")) w.letter) (is_printed row w) (shown_so.date ∙ d)).0
        where
          go : (t : Bool) → is_between_seconds (int_of 64 x.value) ≡ t → begins (has (ascii "tT")) w.letter ≡ true → t ≡ false
          go false q b = refl
          go true q b = absurd (none_of R.NoWholeSecond (no_whole_second printed b q))

-- Whether an element is printed, and whether all of some parts are, can be told.
pub data Told (P : Type 0) (Q : Refusal → ℕ → Type 0) : Type 0 where
  fine : P → Told P Q
  found : {n : Refusal} {p : ℕ} → Q n p → Told P Q

module _ (row : List ℕ) where
  -- A letter that prints is none of %c's and none of dates', or it is of one of them, and then its value decides.
  told_element : (w : Written) → Told (PartPrinted row (element w)) (λ n _. Unprinted row w n)
  told_element w = by_letter (is_printed row w) refl
    where
      z : ℤ
      z = integer_in (entry_at row w.argument)

      since : ℤ
      since = int_of 64 (entry_at row w.argument).value

      by_date : is_printed row w ≡ true
          → (begins (has (ascii "cC")) w.letter ≡ true → (entry_at row w.argument).null ≡ false → is_scalar_value z ≡ false → ⊥) → (d b : Bool)
          → begins (has (ascii "tT")) w.letter ≡ d → is_between_seconds since ≡ b → Told (PartPrinted row (element w)) (λ n _. Unprinted row w n)
      by_date p scalar true true d b = found {p = 0} (no_whole_second p d b)
      by_date p scalar true false d b = fine (λ n u. against n u)
        where
          against : (n : Refusal) → Unprinted row w n → ⊥
          against n (not_printed h) = never (sym h ∙ p)
          against n (no_scalar x y m l) = scalar y m l
          against n (no_whole_second x y l) = never (sym b ∙ l)
      by_date p scalar false t d b = fine (λ n u. against n u)
        where
          against : (n : Refusal) → Unprinted row w n → ⊥
          against n (not_printed h) = never (sym h ∙ p)
          against n (no_scalar x y m l) = scalar y m l
          against n (no_whole_second x y l) = never (sym d ∙ y)

      by_character : is_printed row w ≡ true → (c m s : Bool)
          → begins (has (ascii "cC")) w.letter ≡ c → (entry_at row w.argument).null ≡ m → is_scalar_value z ≡ s
          → Told (PartPrinted row (element w)) (λ n _. Unprinted row w n)
      by_character p true false false c m s = found {p = 0} (no_scalar p c m s)
      by_character p false n t c m s = by_date p (λ y k l. never (sym c ∙ y)) _ _ refl refl
      by_character p true true t c m s = by_date p (λ y k l. never (sym k ∙ m)) _ _ refl refl
      by_character p true false true c m s = by_date p (λ y k l. never (sym l ∙ s)) _ _ refl refl

      by_letter : (p : Bool) → is_printed row w ≡ p → Told (PartPrinted row (element w)) (λ n _. Unprinted row w n)
      by_letter false p = found {p = 0} (not_printed p)
      by_letter true p = by_character p _ _ _ refl refl refl

  pub told : (parts : List Part) → Told (AllPrinted row parts) (FirstUnprinted row parts)
  told [] = fine tt
  told (p ∷ before) = go p (told before)
    where
      judged : (w : Written) → AllPrinted row before → Told (PartPrinted row (element w)) (λ n _. Unprinted row w n)
          → Told (AllPrinted row (element w ∷ before)) (FirstUnprinted row (element w ∷ before))
      judged w h (fine x) = fine (x, h)
      judged w h (found x) = found (here x h)

      go : (p : Part) → Told (AllPrinted row before) (FirstUnprinted row before) → Told (AllPrinted row (p ∷ before)) (FirstUnprinted row (p ∷ before))
      go p (found x) = found (earlier x)
      go (text t) (fine h) = fine (tt, h)
      go percent (fine h) = fine (tt, h)
      go newline (fine h) = fine (tt, h)
      go (element w) (fine h) = judged w h (told_element w)

-- The first piece of a list that is not printed, where one more stands behind it.
module _ (s row : List ℕ) where
  abbrev or_else : Option Stop → Option Stop → Option Stop
  or_else None x = x
  or_else (Some t) x = Some t

  first_snoc : (ps : List Placed) (x : Placed) → first_stop s row (ps ++ (x ∷ []))
      ≡ or_else (first_stop s row ps) (stop_at (piece_stop s row x.piece) x.from None)
  unfolding first_stop
  first_snoc [] x = refl
  first_snoc (y ∷ ps) x = go (piece_stop s row y.piece) (first_snoc ps x)
    where
      go : (t : Option Refusal) → first_stop s row (ps ++ (x ∷ [])) ≡ or_else (first_stop s row ps) (stop_at (piece_stop s row x.piece) x.from None)
          → stop_at t y.from (first_stop s row (ps ++ (x ∷ [])))
          ≡ or_else (stop_at t y.from (first_stop s row ps)) (stop_at (piece_stop s row x.piece) x.from None)
      go None e = e
      go (Some n) e = refl

  piece_goes : {at : ℕ} {x : Piece} {p : Part} → PieceIs (kinds_of row) at x p → OfElement (HasKind row) p → PartPrinted row p → piece_stop s row x ≡ None
  unfolding shown_piece
  piece_goes (Q.is_text_part e f) known h = refl
  piece_goes (Q.is_percent e f) known h = refl
  piece_goes (Q.is_newline e) known h = refl
  piece_goes (Q.is_element {e} {w} is) known h = printed_goes s row e w is known h

  pub none_stops : {ps : List Placed} {parts : List Part} → Lists (kinds_of row) ps parts → Each (HasKind row) parts → AllPrinted row parts
      → first_stop s row ps ≡ None
  unfolding first_stop
  none_stops Q.nothing known h = refl
  none_stops (Q.one {ps} {before} {x} {p} l is from to) known h =
      first_snoc ps x
      ∙ ap (λ (t : Option Stop). or_else t (stop_at (piece_stop s row x.piece) x.from None)) (none_stops l known.1 h.1)
      ∙ ap (λ (t : Option Refusal). stop_at t x.from None) (piece_goes is known.0 h.0)

  abbrev stop_on : Refusal → ℕ → Option Stop
  stop_on n p = Some (stop_with n p)

  pub first_stops : {ps : List Placed} {parts : List Part} {n : Refusal} {p : ℕ}
      → Lists (kinds_of row) ps parts → Each (HasKind row) parts → FirstUnprinted row parts n p
      → first_stop s row ps ≡ stop_on n p
  first_stops {n = n} {p = p} Q.nothing known u = elim u [ ]
  first_stops (Q.one {ps} {before} {x} l is from to) known (earlier u) =
      first_snoc ps x ∙ ap (λ (t : Option Stop). or_else t (stop_at (piece_stop s row x.piece) x.from None)) (first_stops l known.1 u)
  first_stops {n = n} (Q.one {ps} {before} {x} l is from to) known (here u h) =
      first_snoc ps x
      ∙ ap (λ (t : Option Stop). or_else t (stop_at (piece_stop s row x.piece) x.from None)) (none_stops l known.1 h)
      ∙ ap (λ (t : Option Refusal). stop_at t x.from None) (piece_stops is known.0 u)
      ∙ ap (stop_on n) from
    where
      piece_stops : {at : ℕ} {y : Piece} {w : Written} {n : Refusal} → PieceIs (kinds_of row) at y (element w) → HasKind row w → Unprinted row w n
          → piece_stop s row y ≡ Some n
      piece_stops (Q.is_element {e} {w} is) known u = unprinted_stops s row e w is known _ u
