-- The texts of letters one behind the other, and the room that they take. Assumes nothing.
use Prim.Native.Nat.{ℕ, suc, ◌+◌, ◌≤◌, ◌<◌}
use mathlib.Core.Path.{◌≡◌, refl, sym, ap, ◌∙◌}
use mathlib.Core.List.{List, [], ◌∷◌, ◌++◌, append_assoc, append-nil}
use native.Mathlib.Omega.{arith}
use lib.IntN.{ℤ}
use lib.ListN.{length, get_or, take, drop, take-append-drop}
use lib.Seq.{take-suc}
use Rattle.writing.specs.Text.{has}
use Rattle.writing.proofs.Laid.{laid_none, wrote_start}
use Rattle.fields.proofs.Cased.{length-cased}
use Rattle.kinds.specs.declared.letters.TimeFormat.{TimeFormat}
use Rattle.kinds.specs.declared.letters.TimeFormat.TheVariants as T
use Rattle.calendar.specs.declared.Moment.{Moment}
use Rattle.dates.specs.Components.{symbol_text, symbols_text, pattern_of}
use Rattle.dates.specs.Steps.{room, room_for}

texts_on : (z : ℤ) (m : Moment) (s t : List ℕ) → symbols_text z m (s ++ t) ≡ symbols_text z m s ++ symbols_text z m t
unfolding symbols_text
texts_on z m [] t = refl
texts_on z m (b ∷ s) t = ap (λ (x : List ℕ). symbol_text z m b ++ x) (texts_on z m s t) ∙ sym (append_assoc (symbol_text z m b) _ _)

rooms_on : (s t : List ℕ) → room_for (s ++ t) ≡ room_for s + room_for t
unfolding room_for
rooms_on [] t = omega arith
rooms_on (b ∷ s) t = omega (arith, rooms_on s t)

text-one : (z : ℤ) (m : Moment) (b : ℕ) → symbols_text z m (b ∷ []) ≡ symbol_text z m b
unfolding symbols_text
text-one z m b = append-nil (symbol_text z m b)

room-one : (b : ℕ) → room_for (b ∷ []) ≡ room b
unfolding room_for
room-one b = omega arith

module _ (s : List ℕ) (i : ℕ) (h : i < length s) where
  one_more : take (i + 1) s ≡ take i s ++ (get_or s i 0 ∷ [])
  one_more = let e : i + 1 ≡ suc i = omega arith in ap (λ (n : ℕ). take n s) e ∙ take-suc s i 0 h

  pub text_next : (z : ℤ) (m : Moment) → symbols_text z m (take (i + 1) s) ≡ symbols_text z m (take i s) ++ symbol_text z m (get_or s i 0)
  text_next z m =
      ap (symbols_text z m) one_more ∙ texts_on z m (take i s) (get_or s i 0 ∷ [])
      ∙ ap (λ (t : List ℕ). symbols_text z m (take i s) ++ t) (text-one z m (get_or s i 0))

  pub room_next : room_for (take (i + 1) s) ≡ room_for (take i s) + room (get_or s i 0)
  room_next = omega (arith, ap room_for one_more, rooms_on (take i s) (get_or s i 0 ∷ []), room-one (get_or s i 0))

-- What is written so far takes no more room than all.
pub room_within : (s : List ℕ) (i : ℕ) → room_for (take i s) ≤ room_for s
room_within s i = omega (arith, rooms_on (take i s) (drop i s), ap room_for (take-append-drop i s))

-- No component takes more than 168 bytes.
pub room_of_pattern : (c : TimeFormat) → room_for (pattern_of c) ≤ 168
unfolding room_for has
room_of_pattern T.HUpper = omega arith
room_of_pattern T.IUpper = omega arith
room_of_pattern T.KLower = omega arith
room_of_pattern T.LLower = omega arith
room_of_pattern T.MUpper = omega arith
room_of_pattern T.SUpper = omega arith
room_of_pattern T.LUpper = omega arith
room_of_pattern T.NUpper = omega arith
room_of_pattern T.PLower = omega arith
room_of_pattern T.ZLower = omega arith
room_of_pattern T.ZUpper = omega arith
room_of_pattern T.SLower = omega arith
room_of_pattern T.QUpper = omega arith
room_of_pattern T.BUpper = omega arith
room_of_pattern T.BLower = omega arith
room_of_pattern T.AUpper = omega arith
room_of_pattern T.ALower = omega arith
room_of_pattern T.CUpper = omega arith
room_of_pattern T.YUpper = omega arith
room_of_pattern T.YLower = omega arith
room_of_pattern T.JLower = omega arith
room_of_pattern T.MLower = omega arith
room_of_pattern T.DLower = omega arith
room_of_pattern T.ELower = omega arith
room_of_pattern T.RUpper = omega arith
room_of_pattern T.TUpper = omega arith
room_of_pattern T.RLower = omega arith
room_of_pattern T.DUpper = omega arith
room_of_pattern T.FUpper = omega arith
room_of_pattern T.CLower = omega arith

-- what the loop over letters needs
pub ruleset rooms = (room_within, room_next, laid_none)

-- what was written into a buffer, and how long it is in capitals
pub ruleset copied = (wrote_start, length-cased)
