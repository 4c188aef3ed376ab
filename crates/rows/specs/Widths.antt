-- What the functions of this crate require of a kind. No contract of an entry of the panel speaks of it.
use Rattle.std.specs.Prelude.{◌≤◌, Some, None, Option}
use Rattle.kinds.specs.declared.Kind.{Kind}
use Rattle.kinds.specs.declared.Kind.TheVariants as K

-- An integer kind has a width from 1 to 64.
abbrev pub HasWidth : Option Kind → Type 0
HasWidth (Some (K.Integer k)) = (1 ≤ k.width) × (k.width ≤ 64)
HasWidth (Some K.Float64) = Unit {0}
HasWidth (Some K.Boolean) = Unit {0}
HasWidth (Some K.Text) = Unit {0}
HasWidth (Some K.Timestamp) = Unit {0}
HasWidth None = Unit {0}
