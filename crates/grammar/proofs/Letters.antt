-- The letters that 01 lists are those that reading knows, and they fit the kinds as its table says. Assumes nothing.
use Rattle.std.specs.Prelude.{None, Option, Some, Err, Ok}
use mathlib.Core.Path.{◌≡◌, refl, sym, ap, subst, ◌∙◌}
use mathlib.Core.Bool.{Bool, true, false, not, ◌&&◌, ◌||◌}
use mathlib.Core.List.{List, [], ◌∷◌, ◌++◌}
use Prim.Native.Nat.{ℕ, ◌+◌}
use Prim.Native.Char.{code}
use native.Mathlib.Omega.{arith}
use lib.Dec.{eqb}
use lib.ListN.{length, drop}
use borrow.Author.Tests.{eqb-true, ne_eqb}
use Rattle.writing.specs.Choose.{choose}
use Rattle.writing.specs.Text.{ascii, has}
use Rattle.writing.proofs.Choose.{by_test, both}
use Rattle.kinds.specs.Letters.{lookup, time_letters as timeTable, time_of, small_letters, small_of, capital_letters, capital_of}
use Rattle.kinds.specs.Kinds.{kinds as table, kind_of, is_known, fit_in}
use Rattle.kinds.specs.declared.letters.ConversionType.{ConversionType}
use Rattle.kinds.specs.declared.letters.ConversionType.TheVariants.{Time}
use Rattle.kinds.specs.declared.Form.{Form}
use Rattle.kinds.specs.declared.letters.TimeFormat.{TimeFormat}
use Rattle.specifiers.specs.Specifier.{one_letter, time_letter, second_letter, letter_from}
use Rattle.grammar.specs.Runs.{begins, all}
use Rattle.grammar.specs.Pieces.{letters_of, component_letters, names_component, capitals}
use Rattle.grammar.specs.Elements.{letters, time_letters, IsLetter, plain, time, kinds, needs, in_table, fits_bytes}
use Rattle.refusals.specs.Numbers.{Parsed}
use Rattle.refusals.specs.declared.Refusal.TheVariants.{NoLetter, NoTimeLetter}

pub never : false ≡ true → ⊥
never e = let z : ◌≡◌ {A = ℕ} 0 1 = cc in omega arith

-- What holds of every byte of a text holds of each.
pub all-has : (test : ℕ → Bool) (l : List ℕ) (b : ℕ) → all test l ≡ true → has l b ≡ true → test b ≡ true
unfolding all has
all-has test [] b a h = absurd (never h)
all-has test (x ∷ l) b a h =
    let p = both (test x) (all test l) a in
    go (eqb x b) refl p.0 (all-has test l b p.1) h
  where
    go : (t : Bool) → eqb x b ≡ t → test x ≡ true → (has l b ≡ true → test b ≡ true) → (t || has l b) ≡ true → test b ≡ true
    go true e q ih h = subst (λ (y : ℕ). test y ≡ true) (eqb-true x b e) q
    go false e q ih h = ih h

-- What stands in a table for a key that is not among some bytes is what stands there for no key.
module _ {R A B : Type 0} (key : R → ℕ) (found : A → B) (others : B) where
  unfoldable keys : List (R × A) → List ℕ
  keys [] = []
  keys (r ∷ rows) = key r.0 ∷ keys rows

  no_key : (l : List ℕ) (rows : List (R × A)) (b : ℕ) → all (has l) (keys rows) ≡ true → has l b ≡ false → lookup key found others rows b ≡ others
  unfolding keys all
  no_key l [] b a h = refl
  no_key l (r ∷ rows) b a h =
      let p = both (has l (key r.0)) (all (has l) (keys rows)) a in
      by_test (λ (x : B). x ≡ others) (eqb b (key r.0)) _ _
      (λ e. absurd (never (sym h ∙ ap (has l) (eqb-true b (key r.0) e) ∙ p.0))) (λ _. no_key l rows b p.1 h)

-- Whether a letter was read, and which.
abbrev was_read : Parsed (ConversionType × Bool) → Bool
was_read (Ok ((c, u), at)) = true
was_read (Err n) = false

abbrev pub is_fit : Option Form → Bool
is_fit (Some f) = true
is_fit None = false

-- the form of what fits
pub record IsFit (f : Option Form) : Type 0 where
  pub form : Form
  pub is : f ≡ Some form

pub is_fit_lem : (f : Option Form) → is_fit f ≡ true → IsFit f
is_fit_lem (Some f) e = record { form = f; is = refl }
is_fit_lem None e = absurd (never e)

pub is_unfit : (f : Option Form) → is_fit f ≡ false → f ≡ None
is_unfit (Some f) e = absurd (never (sym e))
is_unfit None e = refl

abbrev fits_read : Parsed (ConversionType × Bool) → ℕ → Bool
fits_read (Ok ((c, u), at)) k = is_fit (fit_in c (kind_of k))
fits_read (Err n) k = false

abbrev pub same : Bool → Bool → Bool
same true b = b
same false b = not b

pub same-is : (a b : Bool) → same a b ≡ true → a ≡ b
same-is true b e = sym e
same-is false true e = absurd (never e)
same-is false false e = refl

unfoldable pub one : ℕ → Parsed (ConversionType × Bool)
one b = one_letter (small_of b) (capital_of b) 0

all_read : all (λ b. was_read (one b)) letters ≡ true
unfolding all one small_of capital_of
all_read = refl

all_fit : all (λ b. all (λ k. same (in_table needs b k) (fits_read (one b) k)) kinds) letters ≡ true
unfolding all has one small_of capital_of kind_of
all_fit = refl

-- which conversion a letter names, and whether it is a capital
abbrev names_read : Parsed (ConversionType × Bool) → ℕ → Bool
names_read (Ok ((c, u), at)) b = has (letters_of c) b && (same u (has capitals b) && names_component c [])
names_read (Err n) b = false

all_named : all (λ b. names_read (one b) b) letters ≡ true
unfolding all has one small_of capital_of
all_named = refl

-- which component a letter behind t or T names
abbrev names_time : Option TimeFormat → ℕ → Bool
names_time (Some y) b = has (component_letters y) b
names_time None b = false

all_times : all (λ b. names_time (time_of b) b) time_letters ≡ true
unfolding all has time_of
all_times = refl

-- A letter is read, behind the place where it stands; it fits a kind as the table says.
pub record LetterIs (x : List ℕ) (c : ConversionType) (u : Bool) : Type 0 where
  pub read : (rest : List ℕ) (at : ℕ) → letter_from (x ++ rest) at ≡ Ok ((c, u), (at + length x))
  pub fits_as : (k : ℕ) → has kinds k ≡ true → fits_bytes x k ≡ is_fit (fit_in c (kind_of k))
  pub named : begins (has (letters_of c)) x ≡ true
  pub component : names_component c (drop 1 x) ≡ true
  pub capital : u ≡ begins (has capitals) x

pub record SomeLetter (x : List ℕ) : Type 0 where
  pub conversion : ConversionType
  pub upper : Bool
  pub is : LetterIs x conversion upper

-- t and T are letters of their own, which the two tables do not have
pub not_time : (b : ℕ) → has letters b ≡ true → (eqb b (code "t") ≡ false) × (eqb b (code "T") ≡ false)
unfolding all
not_time b h = (all_not (code "t") refl, all_not (code "T") refl)
  where
    all_not : (d : ℕ) → all (λ b. not (eqb b d)) letters ≡ true → eqb b d ≡ false
    all_not d a = turned (eqb b d) (all-has (λ b. not (eqb b d)) letters b a h)
      where
        turned : (t : Bool) → not t ≡ true → t ≡ false
        turned true e = absurd (never e)
        turned false e = refl

plain-letter : (l : ℕ) → has letters l ≡ true → SomeLetter (l ∷ [])
unfolding one
plain-letter l h = go (small_of l) (capital_of l) refl refl (all-has (λ b. was_read (one b)) letters l all_read h)
  where
    as_table : (k : ℕ) → has kinds k ≡ true → in_table needs l k ≡ fits_read (one l) k
    as_table k i =
        same-is (in_table needs l k) (fits_read (one l) k)
        (all-has (λ k. same (in_table needs l k) (fits_read (one l) k)) kinds k
        (all-has (λ b. all (λ k. same (in_table needs b k) (fits_read (one b) k)) kinds) letters l all_fit h) i)

    names : names_read (one l) l ≡ true
    names = all-has (λ b. names_read (one b) b) letters l all_named h

    named_so : (c : ConversionType) (u : Bool) → one l ≡ Ok ((c, u), 1) → (has (letters_of c) l ≡ true) × (u ≡ has capitals l) × (names_component c [] ≡ true)
    named_so c u e =
        let r = ap (λ (t : Parsed (ConversionType × Bool)). names_read t l) (sym e) ∙ names in
        let p = both (has (letters_of c) l) (same u (has capitals l) && names_component c []) r in
        let q = both (same u (has capitals l)) (names_component c []) p.1 in
        (p.0, same-is u (has capitals l) q.0, q.1)

    at_once : (rest : List ℕ) (at : ℕ) → letter_from (l ∷ rest) at ≡ one_letter (small_of l) (capital_of l) at
    at_once rest at = let n = not_time l h in simp (n.0, n.1)

    read_as : (x y : Option ConversionType) (at : ℕ) → small_of l ≡ x → capital_of l ≡ y → one_letter (small_of l) (capital_of l) at ≡ one_letter x y at
    read_as x y at p q = rw (p, q) refl

    go : (x y : Option ConversionType) → small_of l ≡ x → capital_of l ≡ y → was_read (one_letter x y 0) ≡ true → SomeLetter (l ∷ [])
    go (Some c) y p q r = record {
      conversion = c;
      upper = false;
      is = record {
        read = λ rest at. at_once rest at ∙ read_as (Some c) y at p q;
        fits_as = λ k i. as_table k i ∙ ap (λ (t : Parsed (ConversionType × Bool)). fits_read t k) (read_as (Some c) y 0 p q);
        named = (named_so c false (read_as (Some c) y 0 p q)).0;
        component = (named_so c false (read_as (Some c) y 0 p q)).2;
        capital = (named_so c false (read_as (Some c) y 0 p q)).1;
      };
    }
    go None (Some c) p q r = record {
      conversion = c;
      upper = true;
      is = record {
        read = λ rest at. at_once rest at ∙ read_as None (Some c) at p q;
        fits_as = λ k i. as_table k i ∙ ap (λ (t : Parsed (ConversionType × Bool)). fits_read t k) (read_as None (Some c) 0 p q);
        named = (named_so c true (read_as None (Some c) 0 p q)).0;
        component = (named_so c true (read_as None (Some c) 0 p q)).2;
        capital = (named_so c true (read_as None (Some c) 0 p q)).1;
      };
    }
    go None None p q r = absurd (never r)

-- either of t and T
pub either_time : (t : ℕ) → has (ascii "tT") t ≡ true → (eqb t (code "t") || eqb t (code "T")) ≡ true
unfolding all
either_time t h = all-has (λ t. eqb t (code "t") || eqb t (code "T")) (ascii "tT") t refl h

pub second : (t : ℕ) → has (ascii "tT") t ≡ true → (rest : List ℕ) (at : ℕ) → letter_from (t ∷ rest) at ≡ second_letter (eqb t (code "T")) rest at
second t h rest at = go (eqb t (code "t")) (eqb t (code "T")) refl refl (either_time t h)
  where
    go : (a b : Bool) → eqb t (code "t") ≡ a → eqb t (code "T") ≡ b → (a || b) ≡ true
        → choose a (λ _. second_letter false rest at) (λ _. choose b (λ _. second_letter true rest at) (λ _. one_letter (small_of t) (capital_of t) at))
        ≡ second_letter b rest at
    go true false p q e = refl
    go true true p q e = absurd (let z = eqb-true t (code "t") p in let w = eqb-true t (code "T") q in omega arith)
    go false true p q e = refl
    go false false p q e = absurd (never e)

-- what the table of fit says of t and T
time-fits : (t k : ℕ) (y : TimeFormat) → has (ascii "tT") t ≡ true → has kinds k ≡ true → in_table needs t k ≡ is_fit (fit_in (Time y) (kind_of k))
unfolding all has kind_of
time-fits t k y h i =
    let fit : ℕ → Bool = λ k. is_fit (fit_in (Time y) (kind_of k)) in
    same-is (in_table needs t k) (fit k)
    (all-has (λ k. same (in_table needs t k) (fit k)) kinds k
    (all-has (λ t. all (λ k. same (in_table needs t k) (fit k)) kinds) (ascii "tT") t refl h) i)

time-capital : (t : ℕ) → has (ascii "tT") t ≡ true → eqb t (code "T") ≡ has capitals t
unfolding all has
time-capital t h = same-is (eqb t (code "T")) (has capitals t) (all-has (λ t. same (eqb t (code "T")) (has capitals t)) (ascii "tT") t refl h)

time-letter : (t l : ℕ) → has (ascii "tT") t ≡ true → has time_letters l ≡ true → SomeLetter (t ∷ l ∷ [])
time-letter t l h i = go (time_of l) refl (all-has (λ b. names_time (time_of b) b) time_letters l all_times i)
  where
    go : (x : Option TimeFormat) → time_of l ≡ x → names_time x l ≡ true → SomeLetter (t ∷ l ∷ [])
    go (Some y) p r = record {
      conversion = Time y;
      upper = eqb t (code "T");
      is = record {
        read = λ rest at. second t h (l ∷ rest) at ∙ ap (λ (x : Option TimeFormat). time_letter (eqb t (code "T")) x at) p;
        fits_as = λ k i. time-fits t k y h i;
        named = h;
        component = r;
        capital = time-capital t h;
      };
    }
    go None p r = absurd (never r)

pub letter-is : {x : List ℕ} → IsLetter x → SomeLetter x
letter-is (plain {l} h) = plain-letter l h
letter-is (time {t} {l} h i) = time-letter t l h i

-- What is no letter is refused.
pub no_letter-is : (l : List ℕ) (at : ℕ) → begins (has (letters ++ ascii "tT")) l ≡ false → letter_from l at ≡ Err NoLetter
unfolding small_of capital_of keys all has
no_letter-is [] at h = refl
no_letter-is (b ∷ bs) at h =
    let small = no_key code Some None (letters ++ ascii "tT") small_letters b refl h in
    let capital = no_key code Some None (letters ++ ascii "tT") capital_letters b refl h in
    simp (other (code "t") refl, other (code "T") refl, small, capital)
  where
    other : (d : ℕ) → has (letters ++ ascii "tT") d ≡ true → eqb b d ≡ false
    other d e = ne_eqb b d (λ q. never (sym h ∙ ap (has (letters ++ ascii "tT")) q ∙ e))

pub no_time-is : (t : ℕ) (rest : List ℕ) (at : ℕ) → has (ascii "tT") t ≡ true → begins (has time_letters) rest ≡ false
    → letter_from (t ∷ rest) at ≡ Err NoTimeLetter
unfolding time_of keys all has
no_time-is t [] at h i = second t h [] at
no_time-is t (b ∷ bs) at h i =
    second t h (b ∷ bs) at
    ∙ ap (λ (x : Option TimeFormat). time_letter (eqb t (code "T")) x at) (no_key code Some None time_letters timeTable b refl i)

-- A byte that is a kind is one of those that 01 lists.
pub known_kind : (k : ℕ) → is_known (kind_of k) ≡ true → has kinds k ≡ true
unfolding kind_of keys all has
known_kind k e = go (has kinds k) refl
  where
    go : (t : Bool) → has kinds k ≡ t → t ≡ true
    go true p = refl
    go false p =
        let none = no_key (λ b. b) Some None kinds table k refl p in
        absurd (never (sym (ap is_known none) ∙ e))
