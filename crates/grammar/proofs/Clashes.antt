-- The first flag that offends against one before it, as reading finds it. Assumes nothing.
use Rattle.std.specs.Prelude.{Option, None, Some}
use mathlib.Core.Path.{◌≡◌, refl, sym, ap, subst, ◌∙◌}
use mathlib.Core.Bool.{Bool, true, false, ◌&&◌, ◌||◌}
use mathlib.Core.List.{List, [], ◌∷◌, ◌++◌, append_assoc, append-nil}
use Prim.Native.Nat.{ℕ}
use Prim.Native.Char.{code}
use native.Mathlib.Omega.{arith}
use lib.Dec.{eqb}
use lib.ListN.{length, length-append}
use borrow.Author.Tests.{eqb-true, eq-eqb, ne_eqb}
use Rattle.writing.specs.Text.{has}
use Rattle.writing.proofs.Choose.{by_test, both}
use Rattle.specifiers.specs.Flags.{clash, or_later, first_clash}
use Rattle.grammar.specs.Elements.{Clash, zero_after_minus, plus_after_space, space_after_plus, Free}
use Rattle.refusals.specs.declared.Refusal.{Refusal}

-- a list that ends with something is not empty; the heads and tails of one list
no_cons : (x : ℕ) (f g : List ℕ) → [] ≡ f ++ (x ∷ g) → ⊥
no_cons x f g e = let z : 0 ≡ length (f ++ (x ∷ g)) = ap length e in omega (arith, z, length-append f (x ∷ g))

never : (n : Refusal) → ◌≡◌ {A = Option Refusal} None (Some n) → ⊥
never n e = let z : ◌≡◌ {A = ℕ} 0 1 = cc in omega arith

-- one of two
by_either : {P : Type 0} (a b : Bool) → (a || b) ≡ true → (a ≡ true → P) → (b ≡ true → P) → P
by_either true b e f g = f refl
by_either false b e f g = g e

module _ (before : List ℕ) (b : ℕ) where
  clash_some : (n : Refusal) → clash before b ≡ Some n → Clash before b n
  clash_some n =
      by_test (λ (x : Option Refusal). x ≡ Some n → Clash before b n) (eqb b (code "0") && has before (code "-")) _ _
      (λ t e. let p = both (eqb b (code "0")) (has before (code "-")) t in
      subst (Clash before b) (inside e) (zero_after_minus (eqb-true b (code "0") p.0) p.1))
      (λ _. by_test (λ (x : Option Refusal). x ≡ Some n → Clash before b n)
      ((eqb b (code "+") && has before (code " ")) || (eqb b (code " ") && has before (code "+"))) _ _
      (λ t e. subst (Clash before b) (inside e)
      (by_either (eqb b (code "+") && has before (code " ")) (eqb b (code " ") && has before (code "+")) t
      (λ t. let p = both (eqb b (code "+")) (has before (code " ")) t in plus_after_space (eqb-true b (code "+") p.0) p.1)
      (λ t. let p = both (eqb b (code " ")) (has before (code "+")) t in space_after_plus (eqb-true b (code " ") p.0) p.1)))
      (λ _ e. absurd (never n e)))
    where
      inside : {k : Refusal} → Some k ≡ Some n → k ≡ n
      inside e = cc

  clash-is : (n : Refusal) → Clash before b n → clash before b ≡ Some n
  clash-is n (zero_after_minus e h) = simp (eq-eqb b (code "0") e, h)
  clash-is n (plus_after_space e h) = simp (ne_eqb b (code "0") (λ r. omega arith), eq-eqb b (code "+") e, h)
  clash-is n (space_after_plus e h) =
      simp (ne_eqb b (code "0") (λ r. omega arith), ne_eqb b (code "+") (λ r. omega arith), eq-eqb b (code " ") e, h)

-- No flag of bs offends against those before it, of which `before` stand in front.
abbrev FreeFrom : List ℕ → List ℕ → Type 0
FreeFrom before bs = (f : List ℕ) (b : ℕ) (g : List ℕ) (n : Refusal) → bs ≡ f ++ (b ∷ g) → Clash (before ++ f) b n → ⊥

-- The first that does.
pub record First (before bs : List ℕ) (n : Refusal) : Type 0 where
  pub f : List ℕ
  pub b : ℕ
  pub g : List ℕ
  pub split : bs ≡ f ++ (b ∷ g)
  pub free : FreeFrom before f
  pub clash : Clash (before ++ f) b n

next_flag : (before : List ℕ) (x : ℕ) (f : List ℕ) → (before ++ (x ∷ [])) ++ f ≡ before ++ (x ∷ f)
next_flag before x f = append_assoc before (x ∷ []) f

-- reading finds none
first-none : (before bs : List ℕ) → first_clash before bs ≡ None → FreeFrom before bs
unfolding first_clash
first-none before [] e f b g n q c = absurd (no_cons b f g q)
first-none before (x ∷ bs) e f b g n q c = go (clash before x) refl (first-none (before ++ (x ∷ [])) bs) e f q c
  where
    go : (t : Option Refusal) → clash before x ≡ t → (first_clash (before ++ (x ∷ [])) bs ≡ None → FreeFrom (before ++ (x ∷ [])) bs)
        → or_later t (λ _. first_clash (before ++ (x ∷ [])) bs) ≡ None → (f : List ℕ) → x ∷ bs ≡ f ++ (b ∷ g) → Clash (before ++ f) b n → ⊥
    go (Some k) p ih e f q c = never k (sym e)
    go None p ih e [] q c =
        let same : x ≡ b = cc in
        let d : Clash before x n = subst (λ (y : ℕ). Clash before y n) (sym same) (subst (λ (l : List ℕ). Clash l b n) (append-nil before) c) in
        never n (sym p ∙ clash-is before x n d)
    go None p ih e (y ∷ f) q c =
        let same : x ≡ y = cc in
        let rest : bs ≡ f ++ (b ∷ g) = cc in
        let d : Clash (before ++ (x ∷ f)) b n = subst (λ (z : ℕ). Clash (before ++ (z ∷ f)) b n) (sym same) c in
        ih e f b g n rest (subst (λ (l : List ℕ). Clash l b n) (sym (next_flag before x f)) d)

none_first : (before bs : List ℕ) → FreeFrom before bs → first_clash before bs ≡ None
unfolding first_clash
none_first before [] h = refl
none_first before (x ∷ bs) h = go (clash before x) refl (none_first (before ++ (x ∷ [])) bs later)
  where
    later : FreeFrom (before ++ (x ∷ [])) bs
    later f b g n q c = h (x ∷ f) b g n (ap (λ (l : List ℕ). x ∷ l) q) (subst (λ (l : List ℕ). Clash l b n) (next_flag before x f) c)

    go : (t : Option Refusal) → clash before x ≡ t → first_clash (before ++ (x ∷ [])) bs ≡ None → or_later t (λ _. first_clash (before ++ (x ∷ [])) bs) ≡ None
    go None p ih = ih
    go (Some k) p ih = absurd (h [] x bs k refl (subst (λ (l : List ℕ). Clash l x k) (sym (append-nil before)) (clash_some before x k p)))

-- reading finds one
first_some : (before bs : List ℕ) (n : Refusal) → first_clash before bs ≡ Some n → First before bs n
unfolding first_clash
first_some before [] n e = absurd (never n e)
first_some before (x ∷ bs) n e = go (clash before x) refl (first_some (before ++ (x ∷ [])) bs n) e
  where
    go : (t : Option Refusal) → clash before x ≡ t → (first_clash (before ++ (x ∷ [])) bs ≡ Some n → First (before ++ (x ∷ [])) bs n)
        → or_later t (λ _. first_clash (before ++ (x ∷ [])) bs) ≡ Some n → First before (x ∷ bs) n
    go (Some k) p ih e =
        let same : k ≡ n = cc in
        record {
          f = [];
          b = x;
          g = bs;
          split = refl;
          free = λ f b g n q c. no_cons b f g q;
          clash = subst (λ (l : List ℕ). Clash l x n) (sym (append-nil before)) (clash_some before x n (p ∙ ap Some same));
        }
    go None p ih e =
        let r = ih e in
        record {
          f = x ∷ r.f;
          b = r.b;
          g = r.g;
          split = ap (λ (l : List ℕ). x ∷ l) r.split;
          free = earlier r.f r.free;
          clash = subst (λ (l : List ℕ). Clash l r.b n) (next_flag before x r.f) r.clash;
        }
      where
        earlier : (l : List ℕ) → FreeFrom (before ++ (x ∷ [])) l → FreeFrom before (x ∷ l)
        earlier l h [] b g m q c =
            let same : x ≡ b = cc in
            let d : Clash before x m = subst (λ (y : ℕ). Clash before y m) (sym same) (subst (λ (k : List ℕ). Clash k b m) (append-nil before) c) in
            never m (sym p ∙ clash-is before x m d)
        earlier l h (y ∷ f) b g m q c =
            let same : x ≡ y = cc in
            let rest : l ≡ f ++ (b ∷ g) = cc in
            let d : Clash (before ++ (x ∷ f)) b m = subst (λ (z : ℕ). Clash (before ++ (z ∷ f)) b m) (sym same) c in
            h f b g m rest (subst (λ (k : List ℕ). Clash k b m) (sym (next_flag before x f)) d)

some_first : (before f : List ℕ) (b : ℕ) (g : List ℕ) (n : Refusal) → FreeFrom before f → Clash (before ++ f) b n → first_clash before (f ++ (b ∷ g)) ≡ Some n
unfolding first_clash
some_first before [] b g n h c =
    let d : Clash before b n = subst (λ (l : List ℕ). Clash l b n) (append-nil before) c in
    ap (λ (t : Option Refusal). or_later t (λ _. first_clash (before ++ (b ∷ [])) g)) (clash-is before b n d)
some_first before (x ∷ f) b g n h c =
    go (clash before x) refl
    (some_first (before ++ (x ∷ [])) f b g n later (subst (λ (l : List ℕ). Clash l b n) (sym (next_flag before x f)) c))
  where
    later : FreeFrom (before ++ (x ∷ [])) f
    later u y v m q d = h (x ∷ u) y v m (ap (λ (l : List ℕ). x ∷ l) q) (subst (λ (l : List ℕ). Clash l y m) (next_flag before x u) d)

    go : (t : Option Refusal) → clash before x ≡ t → first_clash (before ++ (x ∷ [])) (f ++ (b ∷ g)) ≡ Some n
        → or_later t (λ _. first_clash (before ++ (x ∷ [])) (f ++ (b ∷ g))) ≡ Some n
    go None p ih = ih
    go (Some k) p ih = absurd (h [] x f k refl (subst (λ (l : List ℕ). Clash l x k) (sym (append-nil before)) (clash_some before x k p)))

-- of all the flags of an element
pub flags-free : (bs : List ℕ) → first_clash [] bs ≡ None → Free bs
flags-free bs e = first-none [] bs e

pub free-flags : (bs : List ℕ) → Free bs → first_clash [] bs ≡ None
free-flags bs h = none_first [] bs h

pub flags-clash : (bs : List ℕ) (n : Refusal) → first_clash [] bs ≡ Some n → First [] bs n
flags-clash bs n e = first_some [] bs n e

pub clash-flags : (f : List ℕ) (b : ℕ) (g : List ℕ) (n : Refusal) → Free f → Clash f b n → first_clash [] (f ++ (b ∷ g)) ≡ Some n
clash-flags f b g n h c = some_first [] f b g n h c
