-- Reading one piece: where a part stands, it is found, and where a fault stands, its number is answered. Assumes nothing.
use Rattle.std.specs.Prelude.{Option, Err, Ok}
use mathlib.Core.Path.{◌≡◌, refl, sym, ap, subst, ◌∙◌}
use mathlib.Core.Bool.{true, false}
use mathlib.Core.List.{List, [], ◌∷◌, ◌++◌, append_assoc}
use Prim.Native.Nat.{ℕ, ◌+◌, ◌-◌, ◌≤◌}
use Prim.Native.Char.{code}
use lib.Dec.{eqb}
use lib.ListN.{length, get_or, drop}
use borrow.Author.Tests.{eq-eqb, lt-leb}
use Rattle.writing.specs.Text.{ascii, has}
use Rattle.specifiers.specs.Params.{is_digit}
use Rattle.kinds.specs.Kinds.{kind_in, fit_in}
use Rattle.specifiers.specs.Flags.{flags_of}
use Rattle.specifiers.specs.Specifier.{begins_with, after_letter, specifier_at}
use Rattle.parsing.specs.Indexes.{index_at}
use Rattle.parsing.specs.Pieces.{argument_at, after_specifier, after_index, element_at, piece_at}
use Rattle.parsing.specs.declared.Cursor.{Cursor}
use Rattle.parsing.proofs.Indexes.{argument_named}
use Rattle.grammar.specs.Parts.{Choice, choice_bytes, Written, precision_bytes, Part, counted_by}
use Rattle.grammar.specs.Elements.{kinds, Names, by_last, by_index, by_count, Begun, Named, Lettered, kind_at, fits_bytes}
use Rattle.grammar.specs.Faults as K
use Rattle.grammar.specs.Faults.{Fault}
use Rattle.grammar.specs.Pieces.{IsLast, At, param_read, precision_read}
use Rattle.grammar.proofs.Letters.{is_fit, is_unfit, SomeLetter, letter-is, no_letter-is, no_time-is}
use Rattle.grammar.proofs.Places.{drop-behind, index-begins}
use Rattle.grammar.proofs.Choices.{begins_with_lem, begins-none, same_step, index_large}
use Rattle.grammar.proofs.Sections.{argument_chosen, Argued, argued, flags_taken_lem, width_taken, PartsRead, parts_taken}
use Rattle.grammar.proofs.Sections.{clash_refused, width_refused, precision_refused, letter_next}
use Rattle.refusals.specs.declared.Refusal.{Refusal}
use Rattle.refusals.specs.declared.Refusal.TheVariants.{NoElementBefore, LargeNumber, NoSuchArgument, NoLetter, NoTimeLetter, UnfitLetter}

-- That every kind is one of those that 01 lists, without its null mark.
abbrev pub KindsKnown : List ℕ → Type 0
KindsKnown ks = (a : ℕ) → 1 ≤ a → a ≤ length ks → has kinds (kind_at ks a) ≡ true

-- an element is neither `%%` nor `%n`
names-other : {before : List Part} {choice : Choice} {rest : List ℕ} {a : ℕ} → Names before choice rest a → (d : ℕ) → has (ascii "%n<$") d ≡ true
    → is_digit d ≡ false → eqb (code "<") d ≡ false → begins_with d (choice_bytes choice ++ rest) ≡ false
names-other (by_last e) d h n l = l
names-other (by_index {ds} {rest} i small) d h n l =
    ap (begins_with d) (append_assoc ds (code "$" ∷ []) rest) ∙ sym (begins_with_lem d (ds ++ (code "$" ∷ rest))) ∙ index-begins d ds (code "$" ∷ rest) n i
names-other (by_count {rest} u) d h n l = begins-none (ascii "%n<$") d rest h u.other

module _ (s ks : List ℕ) (c : Cursor) (before : List Part) (at : At before c) where
  pub element_step : (l : List ℕ) → drop c.at s ≡ code "%" ∷ l → begins_with (code "%") l ≡ false → begins_with (code "n") l ≡ false
      → piece_at s ks c ≡ after_index s ks (argument_at s (length ks) c)
  unfolding piece_at element_at
  element_step l here p n = simp (here, drop-behind s c.at (code "%" ∷ []) l here, p, n)

  module _ (r : List ℕ) (here : drop c.at s ≡ r) where
    pub begun_step : {w : Written} {rest : List ℕ} → Begun before r w rest → piece_at s ks c ≡ after_index s ks (argument_at s (length ks) c)
    unfolding has
    begun_step {w} {rest} b =
        element_step (choice_bytes w.choice ++ rest) (here ∙ b.bytes) (names-other b.names (code "%") refl refl refl)
        (names-other b.names (code "n") refl refl refl)

    -- an element whose argument was read
    module _ {w : Written} {rest : List ℕ} (n : Named (length ks) before r w rest) where
      pub specifier_step : (h : Argued s ks c before at r here w rest)
          → piece_at s ks c
          ≡ after_specifier w.argument (counted_by w.choice c.count) (specifier_at s h.next w.argument (kind_in (get_or ks (w.argument - 1) 0)))
      specifier_step h = begun_step n.begun ∙ ap (after_index s ks) h.read

      refused_step : (h : Argued s ks c before at r here w rest) (refusal : Refusal)
          → specifier_at s h.next w.argument (kind_in (get_or ks (w.argument - 1) 0)) ≡ Err refusal → piece_at s ks c ≡ Err refusal
      refused_step h refusal e = specifier_step h ∙ ap (after_specifier w.argument (counted_by w.choice c.count)) e

      pub first-argument : (h : Argued s ks c before at r here w rest) → 1 ≤ w.argument
      first-argument h = (argument_named s (length ks) c _ h.read).0

    -- the letter of an element, and the kind it must fit
    module _ {w : Written} {rest : List ℕ} (known : KindsKnown ks) (x : Lettered (length ks) before r w rest) where
      abbrev pub so_far : PartsRead s ks c before at r here w (w.letter ++ rest)
      so_far = parts_taken s ks c before at r here w x.precise

      pub named_so : Named (length ks) before r w (w.flags ++ (w.width ++ (precision_bytes w.precision ++ (w.letter ++ rest))))
      named_so = x.precise.wide.flagged.named

      pub is-letter : SomeLetter w.letter
      is-letter = letter-is x.letter

      pub same_fit : is_fit (fit_in is-letter.conversion (kind_in (get_or ks (w.argument - 1) 0))) ≡ fits_bytes w.letter (kind_at ks w.argument)
      same_fit =
          sym (is-letter.is.fits_as (kind_at ks w.argument)
          (known w.argument (first-argument named_so so_far.width.flags.argued) named_so.exists))

      pub read-letter : specifier_at s so_far.width.flags.argued.next w.argument (kind_in (get_or ks (w.argument - 1) 0))
          ≡ after_letter w.argument (kind_in (get_or ks (w.argument - 1) 0))
          (record { flags = flags_of w.flags; width = param_read w.width; precision = precision_read w.precision })
          (Ok ((is-letter.conversion, is-letter.upper), (so_far.place + length w.letter)))
      read-letter =
          letter_next s ks c before at r here w so_far
          ∙ ap (after_letter w.argument (kind_in (get_or ks (w.argument - 1) 0)) _) (is-letter.is.read rest so_far.place)

      no_fit_step : fits_bytes w.letter (kind_at ks w.argument) ≡ false → piece_at s ks c ≡ Err UnfitLetter
      no_fit_step n =
          let unfit = is_unfit (fit_in is-letter.conversion (kind_in (get_or ks (w.argument - 1) 0))) (same_fit ∙ n) in
          refused_step named_so so_far.width.flags.argued UnfitLetter (read-letter ∙ simp unfit)

  pub fault_step : KindsKnown ks → (r : List ℕ) → drop c.at s ≡ r → (refusal : Refusal) → Fault ks before r refusal → piece_at s ks c ≡ Err refusal
  unfolding argument_at index_at has
  fault_step known r here refusal (K.no_element rest e z) =
      let l = subst (λ (x : Option ℕ). IsLast x c.last) z at.last in
      let q : argument_at s (length ks) c ≡ Err NoElementBefore = same_step s (length ks) c before at rest (here ∙ e) ∙ simp (eq-eqb c.last 0 l) in
      element_step (code "<" ∷ rest) (here ∙ e) refl refl ∙ ap (after_index s ks) q
  fault_step known r here refusal (K.no_index rest e) =
      element_step (code "$" ∷ rest) (here ∙ e) refl refl ∙ simp (drop-behind s c.at (code "%" ∷ []) (code "$" ∷ rest) (here ∙ e))
  fault_step known r here refusal (K.large_index ds rest e i n) =
      let l = ds ++ (code "$" ∷ rest) in
      element_step l (here ∙ e) (sym (begins_with_lem (code "%") l) ∙ index-begins (code "%") ds (code "$" ∷ rest) refl i)
      (sym (begins_with_lem (code "n") l) ∙ index-begins (code "n") ds (code "$" ∷ rest) refl i)
      ∙ ap (after_index s ks) (index_large s (length ks) c before at ds rest i (here ∙ e) n)
  fault_step known r here refusal (K.above {w} b n) =
      let q : argument_at s (length ks) c ≡ Err NoSuchArgument =
      (argument_chosen s ks c before at r here w b).step ∙ simp (lt-leb w.argument (length ks) n) in
      begun_step r here b ∙ ap (after_index s ks) q
  fault_step known r here refusal (K.clash {w} g n run split free x) =
      let h = argued s ks c before at r here w n in
      refused_step r here n h refusal (clash_refused s ks c before at r here w g h run split free x)
  fault_step known r here refusal (K.large_width {w} f run n) =
      refused_step r here f.named (flags_taken_lem s ks c before at r here w f).argued LargeNumber (width_refused s ks c before at r here w f run n)
  fault_step known r here refusal (K.large_precision {w} x run n) =
      refused_step r here x.flagged.named (width_taken s ks c before at r here w x).flags.argued LargeNumber
      (precision_refused s ks c before at r here w x run n)
  fault_step known r here refusal (K.no_letter {w} {rest} x n) =
      let h = parts_taken s ks c before at r here w x in
      refused_step r here x.wide.flagged.named h.width.flags.argued NoLetter
      (letter_next s ks c before at r here w h ∙ ap (after_letter w.argument (kind_in (get_or ks (w.argument - 1) 0)) _) (no_letter-is rest h.place n))
  fault_step known r here refusal (K.no_time_letter {w} {t} {rest} x i n) =
      let h = parts_taken s ks c before at r here w x in
      refused_step r here x.wide.flagged.named h.width.flags.argued NoTimeLetter
      (letter_next s ks c before at r here w h ∙ ap (after_letter w.argument (kind_in (get_or ks (w.argument - 1) 0)) _) (no_time-is t rest h.place i n))
  fault_step known r here refusal (K.no_fit x n) = no_fit_step r here known x n
