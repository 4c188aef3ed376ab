-- How the flags go on at a place of the format. Assumes nothing.
use Rattle.std.specs.Prelude.{Option, None, Some, Ok, Result, Err}
use mathlib.Core.Path.{◌≡◌, refl, ap}
use mathlib.Core.Bool.{Bool, true, false, ◌||◌, or-true}
use mathlib.Core.List.{List, [], ◌∷◌, ◌++◌, append_assoc, append-nil}
use Prim.Native.Nat.{ℕ, ◌+◌, ◌≤◌, ◌<◌}
use native.Mathlib.Omega.{arith}
use lib.Dec.{eqb}
use lib.ListN.{length, get_or, drop, length-append}
use Rattle.writing.specs.Choose.{choose}
use Rattle.writing.specs.Text.{has}
use Rattle.specifiers.specs.Flags.{is_flag, leading_flags, flags_of, clash, first_clash, flags_taken, flags_at}
use Rattle.specifiers.specs.Steps.{unless_clash, step_of}
use Rattle.specifiers.specs.declared.flags.Flags.{Flags}
use Rattle.writing.proofs.Bytes.{byte_at, no_byte}
use Rattle.refusals.specs.declared.Refusal.{Refusal}

-- one byte more
pub has_more : (bs : List ℕ) (b c : ℕ) → has (bs ++ (b ∷ [])) c ≡ (eqb b c || has bs c)
unfolding has
has_more [] b c = refl
has_more (a ∷ bs) b c = rw (has_more bs b c) (exchange (eqb a c) (eqb b c))
  where
    exchange : (x y : Bool) → (x || (y || has bs c)) ≡ (y || (x || has bs c))
    exchange x true = or-true x
    exchange x false = refl

-- The flags from the place at on are read up to i: they are the bytes before, none of which clashes, and say what f says.
pub record FlagsTo (s : List ℕ) (at i : ℕ) (f : Flags) : Type 0 where
  pub before : List ℕ
  pub said : f ≡ flags_of before
  pub place : i ≡ at + length before
  pub rest : flags_taken (first_clash before (leading_flags (drop i s))) (before ++ leading_flags (drop i s)) at ≡ flags_at s at

pub flags-none : (s : List ℕ) (at : ℕ) → FlagsTo s at at (flags_of [])
unfolding flags_at
flags-none s at = record { before = []; said = refl; place = omega arith; rest = refl }

-- What holds behind a step at i: one flag more is read, or the flags end there, or their clash is the answer.
abbrev pub Turned : List ℕ → ℕ → ℕ → Flags → Result (Option Flags) Refusal → Type 0
Turned s at i f (Ok (Some g)) = FlagsTo s at (i + 1) g
Turned s at i f (Ok None) = Ok (f, i) ≡ flags_at s at
Turned s at i f (Err refusal) = Err refusal ≡ flags_at s at

module _ (s : List ℕ) (at i : ℕ) (f : Flags) (to : FlagsTo s at i f) where
  no_more : leading_flags (drop i s) ≡ [] → Ok (f, i) ≡ flags_at s at
  unfolding first_clash
  no_more e = simp (to.said, to.place) (simp (e, append-nil) at to.rest)

  pub flags-end : length s ≤ i → Ok (f, i) ≡ flags_at s at
  unfolding leading_flags
  flags-end h = no_more (ap leading_flags (no_byte s i h))

  pub flags_turn : i < length s → (step : Result (Option Flags) Refusal) → step ≡ step_of to.before (get_or s i 0) → Turned s at i f step
  unfolding leading_flags first_clash
  flags_turn h step e = rw e (go (get_or s i 0) (byte_at s i h) _ _ refl refl)
    where
      go : (b : ℕ) → drop i s ≡ b ∷ drop (i + 1) s → (t : Bool) (x : Option Refusal) → is_flag b ≡ t → clash to.before b ≡ x
          → Turned s at i f (choose t (λ _. unless_clash x (flags_of (to.before ++ (b ∷ [])))) (λ _. Ok None))
      go b d false x p q = no_more (simp (d, p))
      go b d true None p q =
          record {
            before = to.before ++ (b ∷ []);
            said = refl;
            place = rw length-append (omega (arith, to.place));
            rest = rw append_assoc (simp (d, p, q) at to.rest);
          }
      go b d true (Some refusal) p q = simp (d, p, q) at to.rest
