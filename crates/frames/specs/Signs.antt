-- For laws alone: no contract of an entry speaks of this.
use Rattle.std.specs.Prelude.{Bool, true, false}
use Rattle.frames.specs.declared.Mark.{Mark}
use Rattle.frames.specs.declared.Mark.TheVariants.{NoMark, Plus, Space, Minus, Brackets}

-- Whether it is the mark of a negative number.
abbrev pub is_minus : Mark → Bool
is_minus NoMark = false
is_minus Plus = false
is_minus Space = false
is_minus Minus = true
is_minus Brackets = true
