-- What is written decides the element, and so the texts of parts. Assumes nothing.
use Rattle.refusals.proofs.Parsed.{same_read}
use Rattle.std.specs.Prelude.{Option, Some, Ok, Bool}
use mathlib.Core.Path.{◌≡◌, refl, sym, ap, subst, ◌∙◌}
use mathlib.Core.Bool.{true, false, not}
use mathlib.Core.List.{List, [], ◌∷◌, ◌++◌}
use Prim.Native.Nat.{ℕ}
use native.Mathlib.Omega.{arith}
use lib.ListN.{length, drop}
use Rattle.writing.specs.Text.{ascii, has}
use Rattle.numerals.specs.declared.Radix.TheVariants.{Decimal, Octal, Hexadecimal}
use Rattle.kinds.specs.Letters.{time_of, small_of, capital_of}
use Rattle.kinds.specs.Kinds.{kind_of, fit_in}
use Rattle.kinds.specs.declared.letters.TimeFormat.{TimeFormat}
use Rattle.kinds.specs.declared.letters.TimeFormat.TheVariants as T
use Rattle.kinds.specs.declared.letters.ConversionType.{ConversionType}
use Rattle.kinds.specs.declared.letters.ConversionType.TheVariants as C
use Rattle.specifiers.specs.declared.Element.{Element}
use Rattle.specifiers.specs.Specifier.{time_letter, letter_from}
use Rattle.grammar.specs.Runs.{begins, all}
use Rattle.grammar.specs.Parts.{Written, Part, text, percent, newline, element}
use Rattle.grammar.specs.Elements.{letters, IsLetter, plain, time, kind_at}
use Rattle.grammar.proofs.Letters.{all-has}
use Rattle.grammar.specs.Pieces.{letters_of, component_letters, names_component, capitals, ElementIs}
use Rattle.rows.specs.Row.{entry_at}
use Rattle.elements.specs.Texts.{text_of}
use Rattle.elements.specs.PieceTexts.{shown_entry}
use Rattle.columns.proofs.Letters.{NamedBy, among}
use Rattle.outcomes.specs.Demand.{is_time}
use Rattle.outcomes.specs.PartTexts.{PartText, PartTexts, nothing, one}

pub never : false ≡ true → ⊥
never e = let z : ◌≡◌ {A = ℕ} 0 1 = cc in omega arith

-- What holds of each byte of a text, one by one.
abbrev All : (ℕ → Type 0) → List ℕ → Type 0
All P [] = Unit {0}
All P (b ∷ bs) = P b × All P bs

all_of : (P : ℕ → Type 0) (l : List ℕ) → All P l → (b : ℕ) → has l b ≡ true → P b
unfolding has
all_of P [] a b h = absurd (never h)
all_of P (x ∷ l) a b h = among P x l b (λ q. subst P q a.0) (all_of P l a.1 b) h

-- A letter of a conversion, but for t and T, names it, and is no t or T.
abbrev pub Names : ConversionType → ℕ → Type 0
Names c b = NamedBy b c (has capitals b) × (has (ascii "tT") b ≡ false)

pub letter-names : (c : ConversionType) → is_time c ≡ false → (b : ℕ) → has (letters_of c) b ≡ true → Names c b
unfolding small_of capital_of has
letter-names C.Boolean n = all_of (Names C.Boolean) (ascii "bB") ((refl, refl), ((refl, refl), tt))
letter-names C.HexHash n = all_of (Names C.HexHash) (ascii "hH") ((refl, refl), ((refl, refl), tt))
letter-names C.String n = all_of (Names C.String) (ascii "sS") ((refl, refl), ((refl, refl), tt))
letter-names C.Char n = all_of (Names C.Char) (ascii "cC") ((refl, refl), ((refl, refl), tt))
letter-names (C.Integer Decimal) n = all_of (Names (C.Integer Decimal)) (ascii "d") ((refl, refl), tt)
letter-names (C.Integer Octal) n = all_of (Names (C.Integer Octal)) (ascii "o") ((refl, refl), tt)
letter-names (C.Integer Hexadecimal) n = all_of (Names (C.Integer Hexadecimal)) (ascii "xX") ((refl, refl), ((refl, refl), tt))
letter-names C.DecimalFloat n =
    all_of (Names C.DecimalFloat) (ascii "eEfgG") ((refl, refl), ((refl, refl), ((refl, refl), ((refl, refl), ((refl, refl), tt)))))
letter-names C.HexFloat n = all_of (Names C.HexFloat) (ascii "aA") ((refl, refl), ((refl, refl), tt))
letter-names (C.Time t) n = absurd (never (sym n))

-- A letter behind t or T names its component.
abbrev Named : TimeFormat → ℕ → Type 0
Named y b = time_of b ≡ Some y

component-named : (y : TimeFormat) (b : ℕ) → has (component_letters y) b ≡ true → Named y b
unfolding time_of
component-named T.HUpper = all_of (Named T.HUpper) (ascii "H") (refl, tt)
component-named T.IUpper = all_of (Named T.IUpper) (ascii "I") (refl, tt)
component-named T.KLower = all_of (Named T.KLower) (ascii "k") (refl, tt)
component-named T.LLower = all_of (Named T.LLower) (ascii "l") (refl, tt)
component-named T.MUpper = all_of (Named T.MUpper) (ascii "M") (refl, tt)
component-named T.SUpper = all_of (Named T.SUpper) (ascii "S") (refl, tt)
component-named T.LUpper = all_of (Named T.LUpper) (ascii "L") (refl, tt)
component-named T.NUpper = all_of (Named T.NUpper) (ascii "N") (refl, tt)
component-named T.PLower = all_of (Named T.PLower) (ascii "p") (refl, tt)
component-named T.ZLower = all_of (Named T.ZLower) (ascii "z") (refl, tt)
component-named T.ZUpper = all_of (Named T.ZUpper) (ascii "Z") (refl, tt)
component-named T.SLower = all_of (Named T.SLower) (ascii "s") (refl, tt)
component-named T.QUpper = all_of (Named T.QUpper) (ascii "Q") (refl, tt)
component-named T.BUpper = all_of (Named T.BUpper) (ascii "B") (refl, tt)
component-named T.BLower = all_of (Named T.BLower) (ascii "bh") (refl, (refl, tt))
component-named T.AUpper = all_of (Named T.AUpper) (ascii "A") (refl, tt)
component-named T.ALower = all_of (Named T.ALower) (ascii "a") (refl, tt)
component-named T.CUpper = all_of (Named T.CUpper) (ascii "C") (refl, tt)
component-named T.YUpper = all_of (Named T.YUpper) (ascii "Y") (refl, tt)
component-named T.YLower = all_of (Named T.YLower) (ascii "y") (refl, tt)
component-named T.JLower = all_of (Named T.JLower) (ascii "j") (refl, tt)
component-named T.MLower = all_of (Named T.MLower) (ascii "m") (refl, tt)
component-named T.DLower = all_of (Named T.DLower) (ascii "d") (refl, tt)
component-named T.ELower = all_of (Named T.ELower) (ascii "e") (refl, tt)
component-named T.RUpper = all_of (Named T.RUpper) (ascii "R") (refl, tt)
component-named T.TUpper = all_of (Named T.TUpper) (ascii "T") (refl, tt)
component-named T.RLower = all_of (Named T.RLower) (ascii "r") (refl, tt)
component-named T.DUpper = all_of (Named T.DUpper) (ascii "D") (refl, tt)
component-named T.FUpper = all_of (Named T.FUpper) (ascii "F") (refl, tt)
component-named T.CLower = all_of (Named T.CLower) (ascii "c") (refl, tt)

-- So what is written of a letter says how it is parsed.
timed : (y : TimeFormat) {x : List ℕ} → IsLetter x → begins (has (ascii "tT")) x ≡ true → begins (has (component_letters y)) (drop 1 x) ≡ true
    → letter_from x 0 ≡ Ok (((C.Time y), (begins (has capitals) x)), (length x))
unfolding all has
timed y (plain {l} h) i n = absurd (never (sym (ap not i) ∙ all-has (λ b. not (has (ascii "tT") b)) letters l refl h))
timed y (time {t} {l} h k) i n =
    let q = component-named y l n in
    all_of (λ t. letter_from (t ∷ l ∷ []) 0 ≡ Ok (((C.Time y), (has capitals t)), 2)) (ascii "tT")
    (ap (λ (z : Option TimeFormat). time_letter false z 0) q, (ap (λ (z : Option TimeFormat). time_letter true z 0) q, tt)) t h

other : (c : ConversionType) → is_time c ≡ false → {x : List ℕ} → IsLetter x → begins (has (letters_of c)) x ≡ true
    → letter_from x 0 ≡ Ok ((c, (begins (has capitals) x)), (length x))
other c n (plain {l} h) i = (letter-names c n l i).0
other c n (time {t} {l} h k) i = absurd (never (sym (letter-names c n t i).1 ∙ h))

letter-read : (c : ConversionType) {x : List ℕ} → IsLetter x → begins (has (letters_of c)) x ≡ true → names_component c (drop 1 x) ≡ true
    → letter_from x 0 ≡ Ok ((c, (begins (has capitals) x)), (length x))
letter-read C.Boolean x i n = other C.Boolean refl x i
letter-read C.HexHash x i n = other C.HexHash refl x i
letter-read C.String x i n = other C.String refl x i
letter-read C.Char x i n = other C.Char refl x i
letter-read (C.Integer r) x i n = other (C.Integer r) refl x i
letter-read C.DecimalFloat x i n = other C.DecimalFloat refl x i
letter-read C.HexFloat x i n = other C.HexFloat refl x i
letter-read (C.Time y) x i n = timed y x i n

-- and the element.
pub same-element : {ks : List ℕ} {e f : Element} {w : Written} → ElementIs ks e w → ElementIs ks f w → e ≡ f
same-element {ks} {e} {f} {w} x y =
    let l =
    sym (letter-read e.conversion x.letter x.conversion x.component) ∙ letter-read f.conversion y.letter y.conversion y.component in
    let conversion : e.conversion ≡ f.conversion = ap (λ (p : ConversionType × Bool). p.0) (same_read l).0 in
    let upper = x.upper ∙ sym y.upper in
    let argument = x.argument ∙ sym y.argument in
    let flags = x.flags ∙ sym y.flags in
    let width = x.width ∙ sym y.width in
    let precision = x.precision ∙ sym y.precision in
    let k = kind_of (kind_at ks w.argument) in
    let q = sym x.form ∙ ap (λ (c : ConversionType). fit_in c k) conversion ∙ y.form in
    let form : e.form ≡ f.form = cc in
    λ i. record {
      argument = argument i;
      flags = flags i;
      width = width i;
      precision = precision i;
      conversion = conversion i;
      upper = upper i;
      form = form i;
    }

-- Parts decide their texts.
module _ (row : List ℕ) where
  same_text : (p : Part) {t u : List ℕ} → PartText row p t → PartText row p u → t ≡ u
  same_text (text x) e f = e ∙ sym f
  same_text percent e f = e ∙ sym f
  same_text newline e f = e ∙ sym f
  same_text (element w) e f =
      e.shown ∙ ap (λ (x : Element). text_of (shown_entry row x (entry_at row w.argument))) (same-element e.is f.is) ∙ sym f.shown

  pub same-texts : {parts : List Part} {ts us : List (List ℕ)} → PartTexts row parts ts → PartTexts row parts us → ts ≡ us
  same-texts nothing nothing = refl
  same-texts (one {before} {p} {ts} t x e) (one {ts = us} u y f) =
      ap (λ (z : List (List ℕ)). z ++ (t ∷ [])) (same-texts x y) ∙ ap (λ (z : List ℕ). us ++ (z ∷ [])) (same_text p e f)
