-- An element, section by section, as reading takes it: argument, flags, width, precision and letter. Assumes nothing.
use Rattle.std.specs.Prelude.{None, Option, Some, Err, Ok}
use mathlib.Core.Path.{◌≡◌, refl, ap, ◌∙◌}
use mathlib.Core.Bool.{true, false}
use mathlib.Core.List.{List, [], ◌∷◌, ◌++◌}
use Prim.Native.Nat.{ℕ, ◌+◌, ◌-◌, ◌<◌}
use Prim.Native.Char.{code}
use native.Mathlib.Omega.{arith}
use lib.ListN.{length, get_or, drop}
use borrow.Author.Tests.{le-leb}
use Rattle.refusals.specs.Limits.{largest_number}
use Rattle.writing.specs.Text.{ascii, has}
use Rattle.kinds.specs.Kinds.{kind_in}
use Rattle.kinds.specs.declared.Kind.{Kind}
use Rattle.specifiers.specs.Params.{is_digit, is_param, param_at}
use Rattle.specifiers.specs.Flags.{flags_of, flags_at}
use Rattle.specifiers.specs.Specifier.{begins_with, precision_at, letter_from, letter_at, parts_at, after_letter, specifier_at}
use Rattle.specifiers.specs.declared.Parts.{Parts}
use Rattle.parsing.specs.Pieces.{argument_at}
use Rattle.parsing.specs.declared.Cursor.{Cursor}
use Rattle.grammar.specs.Runs.{begins, Run, number_in}
use Rattle.grammar.specs.Parts.{Written, precision_bytes, Part, counted_by}
use Rattle.grammar.specs.Elements.{Begun, Named, is_flag, Clash, Free, Flagged, Wide, PrecisionRun, absent, given, Precise}
use Rattle.grammar.specs.Pieces.{At, param_read, precision_read}
use Rattle.grammar.proofs.Places.{drop-behind, flags-read, flags-refused, param_read_lem, param_large, width_digit, precision_digit}
use Rattle.grammar.proofs.Choices.{begins-none, Chosen, chosen}
use Rattle.refusals.specs.Numbers.{Parsed}
use Rattle.specifiers.specs.declared.Element.{Element}
use Rattle.refusals.specs.declared.Refusal.TheVariants.{LargeNumber}
use Rattle.refusals.specs.declared.Refusal.{Refusal}

-- the precision at a place
module _ (s : List ℕ) (at : ℕ) where
  precision-behind : (l : List ℕ) → drop at s ≡ code "." ∷ l → precision_at s at ≡ param_at true s (at + 1)
  unfolding precision_at
  precision-behind l here = simp here

  precision-read : (p : Option (List ℕ)) (rest : List ℕ) → PrecisionRun p rest → drop at s ≡ precision_bytes p ++ rest
      → precision_at s at ≡ Ok (precision_read p, at + length (precision_bytes p))
  unfolding precision_at has
  precision-read None rest (absent h) here =
      let z : at ≡ at + 0 = omega arith in
      simp (ap (begins_with (code ".")) here ∙ begins-none (ascii ".") (code ".") rest refl h) (ap (λ (i : ℕ). Ok (None, i)) z)
  precision-read (Some ds) rest (given run h) here =
      let z : at + 1 + length ds ≡ at + length (code "." ∷ ds) = omega arith in
      precision-behind (ds ++ rest) here
      ∙ param_read_lem true s (at + 1) (precision_digit (drop (at + 1) s)) ds rest (drop-behind s at (code "." ∷ []) (ds ++ rest) here) run h
      ∙ ap (λ (i : ℕ). Ok (param_read ds, i)) z

-- Behind the parts `before`, where the bytes r stand.
module _ (s ks : List ℕ) (c : Cursor) (before : List Part) (at : At before c) (r : List ℕ) (here : drop c.at s ≡ r) (w : Written) where
  abbrev kind : Option Kind
  kind = kind_in (get_or ks (w.argument - 1) 0)

  -- Where reading stands behind the argument, the flags, the width and the precision of the element w, before the bytes `rest`.
  pub record Argued (rest : List ℕ) : Type 0 where
    pub next : ℕ
    pub left : drop next s ≡ rest
    pub read : argument_at s (length ks) c ≡ Ok (record { argument = w.argument; next = next; count = counted_by w.choice c.count })

  pub record FlagsRead (rest : List ℕ) : Type 0 where
    pub argued : Argued (w.flags ++ rest)
    pub place : ℕ
    pub left : drop place s ≡ rest
    pub read : flags_at s argued.next ≡ Ok (flags_of w.flags, place)

  pub record WidthRead (rest : List ℕ) : Type 0 where
    pub flags : FlagsRead (w.width ++ rest)
    pub place : ℕ
    pub left : drop place s ≡ rest
    pub read : param_at false s flags.place ≡ Ok (param_read w.width, place)

  pub record PartsRead (rest : List ℕ) : Type 0 where
    pub width : WidthRead (precision_bytes w.precision ++ rest)
    pub place : ℕ
    pub left : drop place s ≡ rest
    pub read : precision_at s width.place ≡ Ok (precision_read w.precision, place)

  pub argument_chosen : {rest : List ℕ} → Begun before r w rest → Chosen s (length ks) c w.choice w.argument rest
  argument_chosen b = chosen s (length ks) c before at b.names (here ∙ b.bytes)

  pub argued : {rest : List ℕ} → Named (length ks) before r w rest → Argued rest
  argued n =
      let h = argument_chosen n.begun in
      record { next = h.next; left = h.left; read = h.step ∙ simp (le-leb w.argument (length ks) n.exists) }

  pub flags_taken_lem : {rest : List ℕ} → Flagged (length ks) before r w rest → FlagsRead rest
  flags_taken_lem {rest} f =
      let h = argued f.named in
      record {
        argued = h;
        place = h.next + length w.flags;
        left = drop-behind s h.next w.flags rest h.left;
        read = flags-read s h.next w.flags rest h.left f.run f.free;
      }

  -- a width stands behind flags, so it does not begin with one
  width_begins : {l : List ℕ} → Flagged (length ks) before r w l → (at : ℕ) → drop at s ≡ l → is_param false (drop at s) ≡ begins is_digit (drop at s)
  width_begins f at e = width_digit (drop at s) (ap (begins is_flag) e ∙ f.run.longest)

  pub width_taken : {rest : List ℕ} → Wide (length ks) before r w rest → WidthRead rest
  width_taken {rest} x =
      let h = flags_taken_lem x.flagged in
      record {
        flags = h;
        place = h.place + length w.width;
        left = drop-behind s h.place w.width rest h.left;
        read = param_read_lem false s h.place (width_begins x.flagged h.place h.left) w.width rest h.left x.run x.small;
      }

  pub parts_taken : {rest : List ℕ} → Precise (length ks) before r w rest → PartsRead rest
  parts_taken {rest} x =
      let h = width_taken x.wide in
      record {
        width = h;
        place = h.place + length (precision_bytes w.precision);
        left = drop-behind s h.place (precision_bytes w.precision) rest h.left;
        read = precision-read s h.place w.precision rest x.run h.left;
      }

  -- What is read behind the argument, as far as it was read.
  abbrev specifier : ℕ → Parsed Element
  specifier next = specifier_at s next w.argument kind

  pub clash_refused : {rest f : List ℕ} {b : ℕ} {refusal : Refusal} (g : List ℕ) → (h : Argued (w.flags ++ rest)) → Run is_flag w.flags rest
      → w.flags ≡ f ++ (b ∷ g) → Free f → Clash f b refusal → specifier h.next ≡ Err refusal
  unfolding specifier_at parts_at
  clash_refused {rest} {f} {b} {refusal} g h run split free x = simp (flags-refused s h.next w.flags rest h.left run f b g refusal split free x)

  pub width_refused : {rest : List ℕ} → (f : Flagged (length ks) before r w (w.width ++ rest)) → Run is_digit w.width rest
      → largest_number < number_in w.width → specifier (flags_taken_lem f).argued.next ≡ Err LargeNumber
  unfolding specifier_at parts_at
  width_refused {rest} f run n =
      let h = flags_taken_lem f in
      simp (h.read, param_large false s h.place (width_begins f h.place h.left) w.width rest h.left run n)

  pub precision_refused : {ds rest : List ℕ} → (x : Wide (length ks) before r w (code "." ∷ (ds ++ rest))) → Run is_digit ds rest
      → largest_number < number_in ds → specifier (width_taken x).flags.argued.next ≡ Err LargeNumber
  unfolding specifier_at parts_at
  precision_refused {ds} {rest} x run n =
      let h = width_taken x in
      let l = drop-behind s h.place (code "." ∷ []) (ds ++ rest) h.left in
      let large = param_large true s (h.place + 1) (precision_digit (drop (h.place + 1) s)) ds rest l run n in
      simp (h.flags.read, h.read, precision-behind s h.place (ds ++ rest) h.left, large)

  abbrev parts : Parts
  parts = record { flags = flags_of w.flags; width = param_read w.width; precision = precision_read w.precision }

  pub letter_next : {rest : List ℕ} → (h : PartsRead rest)
      → specifier h.width.flags.argued.next ≡ after_letter w.argument kind parts (letter_from rest h.place)
  unfolding specifier_at parts_at letter_at
  letter_next h = simp (h.width.flags.read, h.width.read, h.read, h.left)
