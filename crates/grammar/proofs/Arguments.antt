-- Every element of a format takes an argument that there is: from 1 up to the number of kinds. Assumes nothing.
use Rattle.std.specs.Prelude.{Some}
use mathlib.Core.Path.{◌≡◌, refl, sym, ap, subst, ◌∙◌}
use mathlib.Core.Bool.{false}
use mathlib.Core.List.{List, [], ◌∷◌, append-nil}
use Prim.Native.Nat.{ℕ, suc, ◌≤◌}
use native.Mathlib.Omega.{arith}
use lib.ListN.{length}
use Rattle.numerals.specs.Digits.{number_of}
use Rattle.specifiers.specs.Params.{is_digit, is_param, leading_digits}
use Rattle.parsing.proofs.Named.{number_pos}
use Rattle.grammar.specs.Runs.{Run, number_in}
use Rattle.grammar.specs.Parts.{Choice, Written, Part, text, percent, newline, element, counted_in, named_by, last_named}
use Rattle.grammar.specs.Elements.{IsIndex, Names, by_last, by_index, by_count, Stands, Reads}
use Rattle.grammar.specs.Elements as E
use Rattle.grammar.proofs.Runs.{leading, leading-is, digits_of, digits-leading}
use Rattle.grammar.proofs.Places.{index_param}

-- What holds of every element of some parts.
abbrev pub OfElement : (Written → Type 0) → Part → Type 0
OfElement P (text t) = Unit {0}
OfElement P percent = Unit {0}
OfElement P newline = Unit {0}
OfElement P (element w) = P w

abbrev pub Each : (Written → Type 0) → List Part → Type 0
Each P [] = Unit {0}
Each P (p ∷ before) = OfElement P p × Each P before

-- an index is at least 1
index-first : (ds : List ℕ) → IsIndex ds → 1 ≤ number_in ds
index-first ds i =
    let none = append-nil ds in
    let run : Run is_digit ds [] = record { each = i.digits; longest = refl } in
    let digits : leading_digits ds ≡ digits_of ds =
    digits-leading ds ∙ ap digits_of (ap (leading is_digit) (sym none) ∙ leading-is is_digit run) in
    subst (λ (n : ℕ). 1 ≤ n) (ap (number_of 10) digits) (number_pos ds (ap (is_param false) (sym none) ∙ index_param ds [] i))

abbrev LastFirst : List Part → Type 0
LastFirst before = (a : ℕ) → last_named before ≡ Some a → 1 ≤ a

names-first : {before : List Part} {choice : Choice} {rest : List ℕ} {a : ℕ} → LastFirst before → Names before choice rest a → 1 ≤ a
names-first l (by_last {a} e) = l a e
names-first l (by_index {ds} i n) = index-first ds i
names-first l (by_count u) = omega arith

last-first : {before : List Part} {choice : Choice} {rest : List ℕ} {a : ℕ} → LastFirst before → Names before choice rest a
    → (b : ℕ) → named_by choice a (last_named before) ≡ Some b → 1 ≤ b
last-first l (by_last e) b q = l b q
last-first l (by_index {ds} i n) b q = let z : number_in ds ≡ b = cc in subst (λ (n : ℕ). 1 ≤ n) z (index-first ds i)
last-first {before} l (by_count u) b q = let z : suc (counted_in before) ≡ b = cc in omega arith

module _ (s ks : List ℕ) where
  abbrev Firsts : List Part → Type 0
  Firsts parts = Each (λ w. (1 ≤ w.argument) × (w.argument ≤ length ks)) parts × LastFirst parts

  firsts : {parts : List Part} {r : List ℕ} → Reads s ks parts r → Firsts parts
  unfolding last_named
  firsts E.nothing = (tt, λ a e. absurd (let z : ◌≡◌ {A = ℕ} 0 1 = cc in omega arith))
  firsts (E.one {before} {r} {p} {rest} w x) = go x (firsts w)
    where
      go : {r : List ℕ} {p : Part} {rest : List ℕ} → Stands ks before r p rest → Firsts before → Firsts (p ∷ before)
      go (E.is_text_part b run) f = ((tt, f.0), f.1)
      go E.is_percent f = ((tt, f.0), f.1)
      go E.is_newline f = ((tt, f.0), f.1)
      go (E.is_element y fit) f =
          let n = y.precise.wide.flagged.named in
          (((names-first f.1 n.begun.names, n.exists), f.0), last-first f.1 n.begun.names)

  pub arguments_in : {parts : List Part} {r : List ℕ} → Reads s ks parts r → Each (λ w. (1 ≤ w.argument) × (w.argument ≤ length ks)) parts
  arguments_in w = (firsts w).0
