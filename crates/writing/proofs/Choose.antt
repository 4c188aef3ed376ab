-- What holds of both sides of a choice holds of it, and what both of two tests say. Assumes nothing.
use mathlib.Core.Path.{◌≡◌, refl}
use mathlib.Core.Bool.{Bool, true, false, ◌&&◌}
use Prim.Native.Nat.{ℕ}
use native.Mathlib.Omega.{arith}
use Rattle.writing.specs.Choose.{choose}

pub by_test : {A : Type 0} (P : A → Type 0) (t : Bool) (a b : Unit {0} → A) → (t ≡ true → P (a tt)) → (t ≡ false → P (b tt)) → P (choose t a b)
by_test P true a b f g = f refl
by_test P false a b f g = g refl

pub both : (a b : Bool) → (a && b) ≡ true → (a ≡ true) × (b ≡ true)
both true b e = (refl, e)
both false b e =
    let z : ◌≡◌ {A = ℕ} 0 1 = cc in
    absurd (omega arith)
