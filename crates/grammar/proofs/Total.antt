-- Wherever bytes are left of a format, a part or a fault stands. Assumes nothing.
use Rattle.std.specs.Prelude.{Option, None, Some}
use mathlib.Core.Path.{◌≡◌, refl, sym, ap, subst, ◌∙◌}
use mathlib.Core.Bool.{Bool, true, false, ◌||◌}
use mathlib.Core.List.{List, [], ◌∷◌, ◌++◌, append_assoc}
use Prim.Native.Nat.{ℕ, suc, ◌≤◌}
use Prim.Native.Char.{code}
use native.Mathlib.Decide.{dec_lt}
use native.Mathlib.Omega.{arith}
use lib.Dec.{eqb}
use lib.ListN.{length, drop}
use lib.Seq.{drop-append_seam}
use borrow.Author.Tests.{eqb-true}
use Rattle.refusals.specs.Limits.{largest_number}
use Rattle.writing.specs.Text.{ascii, has}
use Rattle.specifiers.specs.Params.{is_digit, is_param}
use Rattle.specifiers.specs.Flags.{first_clash}
use Rattle.specifiers.specs.Specifier.{begins_with}
use Rattle.grammar.specs.Runs.{begins, Run, number_in}
use Rattle.grammar.specs.Parts.{Choice, same, index, counted, choice_bytes, Written, Part, counted_in, last_named}
use Rattle.grammar.specs.Elements.{IsIndex, Names, by_last, by_index, by_count, Begun, Named, is_flag, Free, Flagged, Wide, absent, given}
use Rattle.grammar.specs.Elements.{Precise, letters, time_letters, IsLetter, plain, time, Lettered, kind_at, fits_bytes, Stands}
use Rattle.grammar.specs.Elements as E
use Rattle.grammar.specs.Faults.{Fault}
use Rattle.grammar.specs.Faults as K
use Rattle.grammar.proofs.Runs.{leading, leading-run, leading_split, leading-is, not_percent}
use Rattle.grammar.proofs.Clashes.{flags-free, flags-clash}
use Rattle.grammar.proofs.Letters.{never}
use Rattle.grammar.proofs.Places.{index_param, index_of_lem}
use Rattle.grammar.proofs.Choices.{begins_cons, index-run}
use Rattle.refusals.specs.declared.Refusal.{Refusal}

-- none of two texts has a byte; a text that begins with a point
pub has-none : (l m : List ℕ) (b : ℕ) → has l b ≡ false → has m b ≡ false → has (l ++ m) b ≡ false
unfolding has
has-none [] m b e n = n
has-none (x ∷ l) m b e n = go (eqb x b) e (has-none l m b)
  where
    go : (t : Bool) → (t || has l b) ≡ false → (has l b ≡ false → has m b ≡ false → has (l ++ m) b ≡ false) → (t || has (l ++ m) b) ≡ false
    go true e ih = e
    go false e ih = ih e n

point : (l : List ℕ) → begins (has (ascii ".")) l ≡ true → l ≡ code "." ∷ drop 1 l
unfolding has
point [] e = absurd (never e)
point (x ∷ l) e = go (eqb (code ".") x) refl e
  where
    go : (t : Bool) → eqb (code ".") x ≡ t → (t || false) ≡ true → x ∷ l ≡ code "." ∷ l
    go true q h = ap (λ (y : ℕ). y ∷ l) (sym (eqb-true (code ".") x q))
    go false q h = absurd (never h)

pub data Verdict (ks : List ℕ) (before : List Part) (r : List ℕ) : Type 0 where
  stands : {p : Part} {rest : List ℕ} → Stands ks before r p rest → Verdict ks before r
  faulty : {refusal : Refusal} → Fault ks before r refusal → Verdict ks before r

-- An element that names the argument a, before the bytes l.
module _ (ks : List ℕ) (before : List Part) (r : List ℕ) (choice : Choice) (a : ℕ) (l : List ℕ) (names : Names before choice l a)
    (bytes : r ≡ code "%" ∷ (choice_bytes choice ++ l)) where
  abbrev flags : List ℕ
  flags = leading is_flag l

  abbrev behind-flags : List ℕ
  behind-flags = drop (length flags) l

  abbrev width : List ℕ
  width = leading is_digit behind-flags

  abbrev behind-width : List ℕ
  behind-width = drop (length width) behind-flags

  -- whatever its precision p and its letter x
  abbrev so : Option (List ℕ) → List ℕ → Written
  so p x = record { choice = choice; argument = a; flags = flags; width = width; precision = p; letter = x }

  begun : (p : Option (List ℕ)) (x : List ℕ) → Begun before r (so p x) (flags ++ behind-flags)
  begun p x =
      let split = leading_split is_flag l in
      record {
        bytes = bytes ∙ ap (λ (y : List ℕ). code "%" ∷ (choice_bytes choice ++ y)) split;
        names = subst (λ (y : List ℕ). Names before choice y a) split names;
      }

  module _ (few : a ≤ length ks) where
    named : (p : Option (List ℕ)) (x : List ℕ) → Named (length ks) before r (so p x) (flags ++ behind-flags)
    named p x = record { begun = begun p x; exists = few }

    module _ (free : Free flags) where
      flagged : (p : Option (List ℕ)) (x : List ℕ) → Flagged (length ks) before r (so p x) (width ++ behind-width)
      flagged p x =
          subst (Flagged (length ks) before r (so p x)) (leading_split is_digit behind-flags)
          (record { named = named p x; run = leading-run is_flag l; free = free })

      module _ (small : number_in width ≤ largest_number) where
        wide : (p : Option (List ℕ)) (x : List ℕ) → Wide (length ks) before r (so p x) behind-width
        wide p x = record { flagged = flagged p x; run = leading-run is_digit behind-flags; small = small }

        -- by its letter
        lettered : (p : Option (List ℕ)) (x rest : List ℕ) → Precise (length ks) before r (so p x) (x ++ rest) → IsLetter x → Verdict ks before r
        lettered p x rest precise is = go (fits_bytes x (kind_at ks a)) refl
          where
            whole : Lettered (length ks) before r (so p x) rest
            whole = record { precise = precise; letter = is }

            go : (t : Bool) → fits_bytes x (kind_at ks a) ≡ t → Verdict ks before r
            go true e = stands (E.is_element whole e)
            go false e = faulty (K.no_fit whole e)

        by_letter : (p : Option (List ℕ)) (rest : List ℕ) → ((x : List ℕ) → Precise (length ks) before r (so p x) rest) → Verdict ks before r
        by_letter p [] precise = faulty (K.no_letter (precise []) refl)
        by_letter p (b ∷ rest) precise = go (has (ascii "tT") b) refl
          where
            plain_or_none : (t : Bool) → has letters b ≡ t → has (ascii "tT") b ≡ false → Verdict ks before r
            plain_or_none true e n = lettered p (b ∷ []) rest (precise (b ∷ [])) (plain e)
            plain_or_none false e n = faulty (K.no_letter (precise []) (has-none letters (ascii "tT") b e n))

            after_time : (l : List ℕ) → rest ≡ l → has (ascii "tT") b ≡ true → Verdict ks before r
            after_time [] q t = faulty (K.no_time_letter (precise []) t (ap (begins (has time_letters)) q))
            after_time (x ∷ l) q t = second (has time_letters x) refl
              where
                second : (u : Bool) → has time_letters x ≡ u → Verdict ks before r
                second true e =
                    lettered p (b ∷ x ∷ []) l
                    (subst (λ (y : List ℕ). Precise (length ks) before r (so p (b ∷ x ∷ [])) (b ∷ y)) q (precise (b ∷ x ∷ []))) (time t e)
                second false e = faulty (K.no_time_letter (precise []) t (ap (begins (has time_letters)) q ∙ e))

            go : (t : Bool) → has (ascii "tT") b ≡ t → Verdict ks before r
            go true t = after_time rest refl t
            go false n = plain_or_none (has letters b) refl n

        -- by its precision
        by_precision : (m : List ℕ) → behind-width ≡ m → Verdict ks before r
        by_precision m q = go (begins (has (ascii ".")) behind-width) refl
          where
            after_point : (m : List ℕ) → behind-width ≡ code "." ∷ m → Verdict ks before r
            after_point m q = elim (dec_lt largest_number (number_in ds)) [
              | yes n ↦ faulty (K.large_precision (pointed []) run n)
              | no n ↦ by_letter (Some ds) (drop (length ds) m) (λ x. record { wide = pointed x; run = given run (omega arith) })
            ]
              where
                ds : List ℕ
                ds = leading is_digit m

                run : Run is_digit ds (drop (length ds) m)
                run = leading-run is_digit m

                pointed : (x : List ℕ) → Wide (length ks) before r (so (Some ds) x) (code "." ∷ (ds ++ drop (length ds) m))
                pointed x =
                    subst (Wide (length ks) before r (so (Some ds) x)) (q ∙ ap (λ (y : List ℕ). code "." ∷ y) (leading_split is_digit m)) (wide (Some ds) x)

            go : (t : Bool) → begins (has (ascii ".")) behind-width ≡ t → Verdict ks before r
            go true t = after_point (drop 1 behind-width) (point behind-width t)
            go false n = by_letter None behind-width (λ x. record { wide = wide None x; run = absent n })

    -- by its flags, then by its width
    by_width : Free flags → Verdict ks before r
    by_width free = elim (dec_lt largest_number (number_in width)) [
      | yes n ↦ faulty (K.large_width (flagged free None []) (leading-run is_digit behind-flags) n)
      | no n ↦ by_precision free (omega arith) behind-width refl
    ]

    by_flags : (t : Option Refusal) → first_clash [] flags ≡ t → Verdict ks before r
    by_flags None e = by_width (flags-free flags e)
    by_flags (Some n) e =
        let f = flags-clash flags n e in
        faulty (K.clash f.g (named None []) (leading-run is_flag l) f.split f.free f.clash)

  pub by_argument : Verdict ks before r
  by_argument = elim (dec_lt (length ks) a) [
    | yes n ↦ faulty (K.above (begun None []) n)
    | no n ↦ by_flags (omega arith) (first_clash [] flags) refl
  ]

-- What stands behind a `%`.
module _ (ks : List ℕ) (before : List Part) where
  -- neither `%%`, `%n`, `%<` nor `%$`: an index, or the running count
  by_index_or_count : (l : List ℕ) → begins (has (ascii "%n<$")) l ≡ false → Verdict ks before (code "%" ∷ l)
  by_index_or_count l other = go (is_param false l) (begins_with (code "$") (drop (length ds) l)) refl refl
    where
      ds : List ℕ
      ds = leading is_digit l

      more : List ℕ
      more = drop 1 (drop (length ds) l)

      indexed : is_param false l ≡ true → l ≡ ds ++ (code "$" ∷ more) → Verdict ks before (code "%" ∷ l)
      indexed p q = elim (dec_lt largest_number (number_in ds)) [
        | yes n ↦ faulty (K.large_index ds more (ap (λ (x : List ℕ). code "%" ∷ x) q) (index_of_lem l p) n)
        | no n ↦
            by_argument ks before (code "%" ∷ l) (index ds) (number_in ds) more (by_index (index_of_lem l p) (omega arith))
            (ap (λ (x : List ℕ). code "%" ∷ x) (q ∙ sym (append_assoc ds (code "$" ∷ []) more)))
      ]

      -- an index that stands there would be these digits, with `$` behind
      only : (es rest : List ℕ) → IsIndex es → l ≡ es ++ (code "$" ∷ rest) → (is_param false l ≡ true) × (begins_with (code "$") (drop (length ds) l) ≡ true)
      only es rest i q =
          let d : ds ≡ es = ap (leading is_digit) q ∙ leading-is is_digit (index-run es rest i) in
          let k : drop (length ds) l ≡ code "$" ∷ rest =
          ap (λ (x : List ℕ). drop (length x) l) d ∙ ap (drop (length es)) q ∙ drop-append_seam es (code "$" ∷ rest) in
          (ap (is_param false) q ∙ index_param es (code "$" ∷ rest) i, ap (begins_with (code "$")) k)

      counts : ((es rest : List ℕ) → IsIndex es → l ≡ es ++ (code "$" ∷ rest) → ⊥) → Verdict ks before (code "%" ∷ l)
      counts without =
          by_argument ks before (code "%" ∷ l) counted (suc (counted_in before)) l (by_count (record { other = other; no_index = without })) refl

      go : (t u : Bool) → is_param false l ≡ t → begins_with (code "$") (drop (length ds) l) ≡ u → Verdict ks before (code "%" ∷ l)
      go true true p q =
          indexed p (leading_split is_digit l ∙ ap (λ (x : List ℕ). ds ++ x) (begins_cons (code "$") (drop (length ds) l) q))
      go true false p q = counts (λ es rest i e. never (sym q ∙ (only es rest i e).1))
      go false u p q = counts (λ es rest i e. never (sym p ∙ (only es rest i e).0))

  by_last_or_none : (rest : List ℕ) (t : Option ℕ) → last_named before ≡ t → Verdict ks before (code "%" ∷ code "<" ∷ rest)
  by_last_or_none rest None e = faulty (K.no_element rest refl e)
  by_last_or_none rest (Some a) e = by_argument ks before (code "%" ∷ code "<" ∷ rest) same a rest (by_last e) refl

  behind-percent : (l : List ℕ) → Verdict ks before (code "%" ∷ l)
  unfolding has
  behind-percent [] = by_index_or_count [] refl
  behind-percent (b ∷ rest) = go (eqb (code "%") b) (eqb (code "n") b) (eqb (code "<") b) (eqb (code "$") b) refl refl refl refl
    where
      is : (d : ℕ) → eqb d b ≡ true → Verdict ks before (code "%" ∷ d ∷ rest) → Verdict ks before (code "%" ∷ b ∷ rest)
      is d e v = subst (λ (x : ℕ). Verdict ks before (code "%" ∷ x ∷ rest)) (eqb-true d b e) v

      go : (p n m d : Bool) → eqb (code "%") b ≡ p → eqb (code "n") b ≡ n → eqb (code "<") b ≡ m → eqb (code "$") b ≡ d
          → Verdict ks before (code "%" ∷ b ∷ rest)
      go true n m d e f g h = is (code "%") e (stands E.is_percent)
      go false true m d e f g h = is (code "n") f (stands E.is_newline)
      go false false true d e f g h = is (code "<") g (by_last_or_none rest (last_named before) refl)
      go false false false true e f g h = is (code "$") h (faulty (K.no_index rest refl))
      go false false false false e f g h = by_index_or_count (b ∷ rest) (simp (e, f, g, h))

  pub verdict : (b : ℕ) (bs : List ℕ) → Verdict ks before (b ∷ bs)
  unfolding leading
  verdict b bs = go (eqb b (code "%")) refl
    where
      t : List ℕ
      t = leading not_percent (b ∷ bs)

      starts : eqb b (code "%") ≡ false → begins not_percent t ≡ true
      starts e = simp e

      go : (v : Bool) → eqb b (code "%") ≡ v → Verdict ks before (b ∷ bs)
      go true e = subst (λ (x : ℕ). Verdict ks before (x ∷ bs)) (sym (eqb-true b (code "%") e)) (behind-percent bs)
      go false e =
          subst (Verdict ks before) (sym (leading_split not_percent (b ∷ bs))) (stands (E.is_text_part (starts e) (leading-run not_percent (b ∷ bs))))
