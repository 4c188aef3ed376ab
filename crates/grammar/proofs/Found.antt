-- A part that stands in the format is found as the piece it is, and the cursor behind it counts it. Assumes nothing.
use Rattle.std.specs.Prelude.{Option, Ok}
use mathlib.Core.Path.{◌≡◌, refl, sym, ap, subst, ◌∙◌}
use mathlib.Core.Bool.{Bool, true, false, not}
use mathlib.Core.List.{List, [], ◌∷◌, ◌++◌, append_assoc}
use Prim.Native.Nat.{ℕ, ◌+◌, ◌-◌, ◌≤◌, ◌<◌}
use Prim.Native.Char.{code}
use native.Mathlib.Omega.{arith}
use lib.Dec.{eqb}
use lib.ListN.{length, get_or, drop, length-append, length-drop}
use Rattle.writing.specs.Text.{ascii}
use Rattle.kinds.specs.Kinds.{kind_in, fit_in}
use Rattle.specifiers.specs.Flags.{flags_of}
use Rattle.specifiers.specs.Specifier.{begins_with, specifier_at}
use Rattle.specifiers.specs.declared.Element.{Element}
use Rattle.parsing.specs.Texts.{text_length}
use Rattle.parsing.specs.Pieces.{passed, after_specifier, piece_at}
use Rattle.parsing.specs.declared.Cursor.{Cursor}
use Rattle.parsing.specs.declared.Piece.{Piece}
use Rattle.parsing.specs.declared.Piece.TheVariants.{Fixed, Byte, Element as AnElement}
use Rattle.parsing.proofs.Progress.{advanced}
use Rattle.grammar.specs.Runs.{begins, Run}
use Rattle.grammar.specs.Parts.{Choice, Written, element_bytes}
use Rattle.grammar.specs.Parts.{Part, text, percent, newline, element, part_bytes, bytes_before}
use Rattle.grammar.specs.Parts.{counted_by, counted_with, counted_in, named_by, named_with, last_named}
use Rattle.grammar.specs.Elements.{Names, by_last, by_index, by_count, Lettered, kind_at, fits_bytes, Stands}
use Rattle.grammar.specs.Elements as E
use Rattle.grammar.specs.Pieces.{IsLast, At, param_read, precision_read, PieceIs}
use Rattle.grammar.specs.Pieces as Q
use Rattle.grammar.proofs.Runs.{leading, not_percent, leading-is, text-leading}
use Rattle.grammar.proofs.Letters.{never, IsFit, is_fit_lem}
use Rattle.grammar.proofs.Places.{drop-behind}
use Rattle.grammar.proofs.Steps.{KindsKnown, specifier_step, first-argument, so_far, named_so, is-letter, same_fit, read-letter}

-- the bytes of an element
pub element-bytes : {n : ℕ} {before : List Part} {r : List ℕ} {w : Written} {rest : List ℕ} → Lettered n before r w rest → r ≡ element_bytes w ++ rest
element-bytes {w = w} {rest = rest} x = x.precise.wide.flagged.named.begun.bytes ∙ simp append_assoc

pub stands_bytes : {ks : List ℕ} {before : List Part} {r : List ℕ} {p : Part} {rest : List ℕ} → Stands ks before r p rest → r ≡ part_bytes p ++ rest
stands_bytes (E.is_text_part b run) = refl
stands_bytes E.is_percent = refl
stands_bytes E.is_newline = refl
stands_bytes (E.is_element x f) = element-bytes x

-- the argument of `%<` behind an element
last-next : {before : List Part} {choice : Choice} {rest : List ℕ} {a : ℕ} → Names before choice rest a → 1 ≤ a
    → IsLast (named_by choice a (last_named before)) a
last-next {a = a} (by_last e) h = subst (λ (x : Option ℕ). IsLast x a) (sym e) (refl, h)
last-next (by_index i n) h = (refl, h)
last-next (by_count u) h = (refl, h)

-- What is found where the part p stands before `rest`.
pub record Finds (s ks : List ℕ) (c : Cursor) (before : List Part) (p : Part) (rest : List ℕ) : Type 0 where
  pub piece : Piece
  pub next : Cursor
  pub found : piece_at s ks c ≡ Ok (piece, next)
  pub left : drop next.at s ≡ rest
  pub is : PieceIs ks c.at piece p
  pub at : At (p ∷ before) next

module _ (s ks : List ℕ) (c : Cursor) (before : List Part) (at : At before c) (inside : c.at < length s) where
  -- what the numbers of the next cursor mean, where its place is that of `rest`
  next_at : {p : Part} {piece : Piece} {next : Cursor} (rest : List ℕ) → piece_at s ks c ≡ Ok (piece, next) → drop c.at s ≡ part_bytes p ++ rest
      → drop next.at s ≡ rest → next.count ≡ counted_with p c.count → IsLast (named_with p (last_named before)) next.last → At (p ∷ before) next
  unfolding bytes_before counted_in last_named
  next_at {p} {piece} {next} rest found here left count last =
      let a = advanced s ks c piece next inside found in
      let whole : length s - c.at ≡ length (part_bytes p) + length rest = sym (length-drop c.at s) ∙ ap length here ∙ length-append (part_bytes p) rest in
      let end : length s - next.at ≡ length rest = sym (length-drop next.at s) ∙ ap length left in
      record {
        place = omega (arith, at.place, a.forward, a.inside, length-append (bytes_before before) (part_bytes p));
        count = count ∙ ap (counted_with p) at.count;
        last = last;
      }

  text_found : (t rest : List ℕ) → begins not_percent t ≡ true → Run not_percent t rest → drop c.at s ≡ t ++ rest → Finds s ks c before (text t) rest
  unfolding piece_at
  text_found t rest b run here = record {
    piece = Fixed c.at (length t);
    next = passed c (c.at + length t);
    found = found;
    left = left;
    is = Q.is_text_part refl refl;
    at = next_at {p = text t} rest found here left refl at.last;
  }
    where
      left : drop (c.at + length t) s ≡ rest
      left = drop-behind s c.at t rest here

      no_percent : (t : List ℕ) → begins not_percent t ≡ true → begins_with (code "%") (t ++ rest) ≡ false
      no_percent [] e = absurd (never e)
      no_percent (x ∷ t) e = turned (eqb x (code "%")) e
        where
          turned : (v : Bool) → not v ≡ true → v ≡ false
          turned true e = absurd (never e)
          turned false e = refl

      count : text_length (drop c.at s) ≡ length t
      count = text-leading (drop c.at s) ∙ ap (λ (l : List ℕ). length (leading not_percent l)) here ∙ ap length (leading-is not_percent run)

      found : piece_at s ks c ≡ Ok (Fixed c.at (length t), passed c (c.at + length t))
      found = simp (ap (begins_with (code "%")) here ∙ no_percent t b, count)

  percent_found : (rest : List ℕ) → drop c.at s ≡ ascii "%%" ++ rest → Finds s ks c before percent rest
  unfolding piece_at
  percent_found rest here = record {
    piece = Fixed (c.at + 1) 1;
    next = passed c (c.at + 2);
    found = found;
    left = left;
    is = Q.is_percent refl refl;
    at = next_at {p = percent} rest found here left refl at.last;
  }
    where
      left : drop (c.at + 2) s ≡ rest
      left = drop-behind s c.at (ascii "%%") rest here

      found : piece_at s ks c ≡ Ok (Fixed (c.at + 1) 1, passed c (c.at + 2))
      found = simp (here, drop-behind s c.at (code "%" ∷ []) (code "%" ∷ rest) here)

  newline_found : (rest : List ℕ) → drop c.at s ≡ ascii "%n" ++ rest → Finds s ks c before newline rest
  unfolding piece_at
  newline_found rest here = record {
    piece = Byte 10;
    next = passed c (c.at + 2);
    found = found;
    left = left;
    is = Q.is_newline refl;
    at = next_at {p = newline} rest found here left refl at.last;
  }
    where
      left : drop (c.at + 2) s ≡ rest
      left = drop-behind s c.at (ascii "%n") rest here

      found : piece_at s ks c ≡ Ok (Byte 10, passed c (c.at + 2))
      found = simp (here, drop-behind s c.at (code "%" ∷ []) (code "n" ∷ rest) here)

  module _ (known : KindsKnown ks) (r : List ℕ) (here : drop c.at s ≡ r) {w : Written} {rest : List ℕ} (x : Lettered (length ks) before r w rest)
      (fit : fits_bytes w.letter (kind_at ks w.argument) ≡ true) where
    form_found : IsFit (fit_in (is-letter s ks c before at r here known x).conversion (kind_in (get_or ks (w.argument - 1) 0)))
    form_found = is_fit_lem _ (same_fit s ks c before at r here known x ∙ fit)

    holds : Element
    holds = record {
      argument = w.argument;
      flags = flags_of w.flags;
      width = param_read w.width;
      precision = precision_read w.precision;
      conversion = (is-letter s ks c before at r here known x).conversion;
      upper = (is-letter s ks c before at r here known x).upper;
      form = form_found.form;
    }

    behind : Cursor
    behind = record {
      at = (so_far s ks c before at r here known x).place + length w.letter;
      count = counted_by w.choice c.count;
      last = w.argument;
    }

    element_found : piece_at s ks c ≡ Ok (AnElement holds, behind)
    unfolding holds behind
    element_found =
        let h = (so_far s ks c before at r here known x).width.flags.argued in
        let n = named_so s ks c before at r here known x in
        let q : specifier_at s h.next w.argument (kind_in (get_or ks (w.argument - 1) 0)) ≡ Ok (holds, behind.at) =
        read-letter s ks c before at r here known x ∙ simp form_found.is in
        specifier_step s ks c before at r here n h ∙ ap (after_specifier w.argument (counted_by w.choice c.count)) q

    pub element_finds : Finds s ks c before (element w) rest
    unfolding holds behind
    element_finds =
        let l = so_far s ks c before at r here known x in
        let n = named_so s ks c before at r here known x in
        let left = drop-behind s l.place w.letter rest l.left in
        let first = first-argument s ks c before at r here n l.width.flags.argued in
        let y = is-letter s ks c before at r here known x in
        record {
          piece = AnElement holds;
          next = behind;
          found = element_found;
          left = left;
          is =
              Q.is_element
              (record {
                argument = refl;
                flags = refl;
                width = refl;
                precision = refl;
                conversion = y.is.named;
                component = y.is.component;
                upper = y.is.capital;
                letter = x.letter;
                form = form_found.is;
              });
          at = next_at {p = element w} rest element_found (here ∙ element-bytes x) left refl (last-next n.begun.names first);
        }

  pub stands_finds : KindsKnown ks → (r : List ℕ) → drop c.at s ≡ r → {p : Part} {rest : List ℕ} → Stands ks before r p rest → Finds s ks c before p rest
  stands_finds known r here (E.is_text_part {t} {rest} b run) = text_found t rest b run here
  stands_finds known r here (E.is_percent {rest}) = percent_found rest here
  stands_finds known r here (E.is_newline {rest}) = newline_found rest here
  stands_finds known r here (E.is_element x f) = element_finds known r here x f
