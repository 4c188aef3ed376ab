-- For speed alone: no contract of an entry speaks of this.
use Rattle.std.specs.Prelude.{ℕ, Bool, false, eqb}
use Rattle.frames.specs.declared.Mark.{Mark}
use Rattle.frames.specs.declared.Mark.TheVariants.{NoMark, Plus, Space, Minus, Brackets}

-- Whether there is neither a width nor a mark.
abbrev pub is_bare : ℕ → Mark → Bool
is_bare width NoMark = eqb width 0
is_bare width Plus = false
is_bare width Space = false
is_bare width Minus = false
is_bare width Brackets = false
