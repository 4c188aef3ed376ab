-- What a step of the code is told. No contract of an entry speaks of it.
use Rattle.std.specs.Prelude.{ℕ, ◌+◌, Bool, true, false, ltb}
use Rattle.writing.specs.Choose.{choose}

-- A day of a year, counted from 0, as it is counted where February has 30 days.
abbrev pub evened : Bool → ℕ → ℕ
evened true k = choose (ltb k 60) (λ _. k) (λ _. k + 1)
evened false k = choose (ltb k 59) (λ _. k) (λ _. k + 2)
