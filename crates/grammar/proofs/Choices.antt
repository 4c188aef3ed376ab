-- The argument that an element takes, as reading finds it behind the parts before it. Assumes nothing.
use Rattle.std.specs.Prelude.{Option, Some, Err}
use mathlib.Core.Path.{◌≡◌, refl, sym, ap, subst, ◌∙◌}
use mathlib.Core.Bool.{Bool, true, false}
use mathlib.Core.List.{List, [], ◌∷◌, ◌++◌, append_assoc}
use Prim.Native.Nat.{ℕ, suc, ◌+◌, ◌≤◌, ◌<◌}
use Prim.Native.Char.{code}
use native.Mathlib.Numerals.{add-one}
use native.Mathlib.Omega.{arith}
use lib.Dec.{eqb}
use lib.ListN.{length, drop}
use lib.Seq.{drop-drop}
use borrow.Author.Tests.{eqb-true, ne_eqb}
use Rattle.refusals.specs.Limits.{largest_number}
use Rattle.writing.specs.Text.{ascii, has}
use Rattle.writing.proofs.Choose.{both}
use Rattle.specifiers.specs.Params.{is_digit, leading_digits, is_param, number_at}
use Rattle.specifiers.specs.Specifier.{begins_with}
use Rattle.parsing.specs.Indexes.{among_kinds, index_of, is_index, index_at, same_index}
use Rattle.parsing.specs.Pieces.{argument_at}
use Rattle.parsing.specs.declared.Cursor.{Cursor}
use Rattle.grammar.specs.Runs.{begins, Run, number_in}
use Rattle.grammar.specs.Parts.{Choice, same, index, counted, choice_bytes, Part, counted_by, last_named}
use Rattle.grammar.specs.Elements.{IsIndex, NoChoice, Names, by_last, by_index, by_count}
use Rattle.grammar.specs.Pieces.{IsLast, At}
use Rattle.grammar.proofs.Runs.{leading, leading_split, digits-leading, digits-length}
use Rattle.grammar.proofs.Letters.{never}
use Rattle.grammar.proofs.Places.{drop-behind, digits-here, number_read, number_large, index_param, index-begins, index_of_lem}
use Rattle.refusals.specs.Numbers.{Parsed}
use Rattle.refusals.specs.declared.Refusal.TheVariants.{LargeNumber}

-- one byte or another, by the tests that reading makes
pub begins_with_lem : (b : ℕ) (l : List ℕ) → begins (λ c. eqb c b) l ≡ begins_with b l
begins_with_lem b [] = refl
begins_with_lem b (c ∷ l) = refl

-- a text that begins with none of some bytes
pub begins-none : (bs : List ℕ) (d : ℕ) (l : List ℕ) → has bs d ≡ true → begins (has bs) l ≡ false → begins_with d l ≡ false
begins-none bs d [] t h = refl
begins-none bs d (x ∷ l) t h = ne_eqb x d (λ e. never (sym h ∙ ap (has bs) e ∙ t))

pub begins_cons : (b : ℕ) (l : List ℕ) → begins_with b l ≡ true → l ≡ b ∷ drop 1 l
begins_cons b [] e = absurd (never e)
begins_cons b (x ∷ l) e = ap (λ (y : ℕ). y ∷ l) (eqb-true x b e)

-- an index is one run of digits before `$`
pub index-run : (ds rest : List ℕ) → IsIndex ds → Run is_digit ds (code "$" ∷ rest)
index-run ds rest i = record { each = i.digits; longest = refl }

module _ (s : List ℕ) (at : ℕ) where
  pub index_true : (ds rest : List ℕ) → drop at s ≡ ds ++ (code "$" ∷ rest) → IsIndex ds → is_index s at ≡ true
  index_true ds rest here i =
      let param = ap (is_param false) here ∙ index_param ds (code "$" ∷ rest) i in
      let count = ap length (digits-here s at ds (code "$" ∷ rest) here (index-run ds rest i)) ∙ digits-length ds in
      let behind = ap (λ (n : ℕ). drop (at + n) s) count ∙ drop-behind s at ds (code "$" ∷ rest) here in
      simp (param, behind)

  pub index_false : (rest : List ℕ) → drop at s ≡ rest → NoChoice rest → is_index s at ≡ false
  index_false rest here u = go (is_index s at) refl
    where
      go : (t : Bool) → is_index s at ≡ t → t ≡ false
      go false e = refl
      go true e =
          let l = drop at s in
          let ds = leading is_digit l in
          let p = both (is_param false l) (begins_with (code "$") (drop (at + length (leading_digits l)) s)) e in
          let count = ap length (digits-leading l) ∙ digits-length ds in
          let dollar : begins_with (code "$") (drop (length ds) l) ≡ true =
          ap (begins_with (code "$")) (drop-drop (length ds) at s ∙ ap (λ (n : ℕ). drop (at + n) s) (sym count)) ∙ p.1 in
          let split = leading_split is_digit l ∙ ap (λ (x : List ℕ). ds ++ x) (begins_cons (code "$") (drop (length ds) l) dollar) in
          absurd (u.no_index ds (drop 1 (drop (length ds) l)) (index_of_lem l p.0) (sym here ∙ split))

-- Where reading stands behind its choice of an argument.
pub record Chosen (s : List ℕ) (n : ℕ) (c : Cursor) (choice : Choice) (a : ℕ) (rest : List ℕ) : Type 0 where
  pub next : ℕ
  pub step : argument_at s n c ≡ among_kinds n a next (counted_by choice c.count)
  pub left : drop next s ≡ rest

module _ (s : List ℕ) (n : ℕ) (c : Cursor) (before : List Part) (at : At before c) where
  -- the bytes behind the `%`
  pub behind-percent : (l : List ℕ) → drop c.at s ≡ code "%" ∷ l → drop (c.at + 1) s ≡ l
  behind-percent l e = drop-behind s c.at (code "%" ∷ []) l e

  -- `%<`
  pub same_step : (rest : List ℕ) → drop c.at s ≡ code "%" ∷ (code "<" ∷ rest) → argument_at s n c ≡ same_index n c.last (c.at + 2) c.count
  unfolding argument_at
  same_step rest here = simp (behind-percent (code "<" ∷ rest) here)

  last_chosen : {a : ℕ} (rest : List ℕ) → last_named before ≡ Some a → drop c.at s ≡ code "%" ∷ (code "<" ∷ rest) → Chosen s n c same a rest
  last_chosen {a} rest named here =
      let k = subst (λ (x : Option ℕ). IsLast x c.last) named at.last in
      record {
        next = c.at + 2;
        step =
            same_step rest here
            ∙ simp (ne_eqb c.last 0 (λ z. omega (arith, k.1))) (ap (λ (x : ℕ). among_kinds n x (c.at + 2) c.count) k.0);
        left = drop-behind s c.at (code "%" ∷ code "<" ∷ []) rest here;
      }

  -- an index
  module _ (ds rest : List ℕ) (i : IsIndex ds) (here : drop c.at s ≡ code "%" ∷ (ds ++ (code "$" ∷ rest))) where
    digits_behind : drop (c.at + 1) s ≡ ds ++ (code "$" ∷ rest)
    digits_behind = behind-percent (ds ++ (code "$" ∷ rest)) here

    not_begun : (b : ℕ) → is_digit b ≡ false → begins_with b (drop (c.at + 1) s) ≡ false
    not_begun b d =
        ap (begins_with b) digits_behind ∙ sym (begins_with_lem b (ds ++ (code "$" ∷ rest))) ∙ index-begins b ds (code "$" ∷ rest) d i

    pub index_step : argument_at s n c ≡ index_of (number_at s (c.at + 1)) n c.count
    unfolding argument_at index_at
    index_step = simp (not_begun (code "<") refl, not_begun (code "$") refl, index_true s (c.at + 1) ds rest digits_behind i)

    index_chosen : number_in ds ≤ largest_number → Chosen s n c (index ds) (number_in ds) rest
    index_chosen h = record {
      next = c.at + 1 + length ds + 1;
      step =
          index_step
          ∙ ap (λ (x : Parsed ℕ). index_of x n c.count) (number_read s (c.at + 1) ds (code "$" ∷ rest) digits_behind (index-run ds rest i) h);
      left =
          drop-behind s (c.at + 1 + length ds) (code "$" ∷ []) rest (drop-behind s (c.at + 1) ds (code "$" ∷ rest) digits_behind);
    }

    pub index_large : largest_number < number_in ds → argument_at s n c ≡ Err LargeNumber
    index_large h =
        index_step
        ∙ ap (λ (x : Parsed ℕ). index_of x n c.count) (number_large s (c.at + 1) ds (code "$" ∷ rest) digits_behind (index-run ds rest i) h)

  -- the running count
  count_chosen : (rest : List ℕ) → NoChoice rest → drop c.at s ≡ code "%" ∷ rest → Chosen s n c counted (suc c.count) rest
  unfolding argument_at index_at has
  count_chosen rest u here =
      record {
        next = c.at + 1;
        step =
            simp (no (code "<") refl, no (code "$") refl, index_false s (c.at + 1) rest l u)
            (ap (λ (x : ℕ). among_kinds n x (c.at + 1) x) (add-one c.count));
        left = l;
      }
    where
      l : drop (c.at + 1) s ≡ rest
      l = behind-percent rest here

      no : (d : ℕ) → has (ascii "%n<$") d ≡ true → begins_with d (drop (c.at + 1) s) ≡ false
      no d t = ap (begins_with d) l ∙ begins-none (ascii "%n<$") d rest t u.other

  pub chosen : {choice : Choice} {a : ℕ} {rest : List ℕ} → Names before choice rest a → drop c.at s ≡ code "%" ∷ (choice_bytes choice ++ rest)
      → Chosen s n c choice a rest
  chosen (by_last {rest = rest} e) here = last_chosen rest e here
  chosen (by_index {ds} {rest} i h) here =
      index_chosen ds rest i (here ∙ ap (λ (x : List ℕ). code "%" ∷ x) (append_assoc ds (code "$" ∷ []) rest)) h
  chosen (by_count {rest} u) here =
      subst (λ (a : ℕ). Chosen s n c counted (suc a) rest) at.count (count_chosen rest u here)
