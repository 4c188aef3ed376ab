-- Where the text and the ends that a record states lie: in the list. Only steps of the code speak of it.
use Rattle.std.specs.Prelude.{ℕ, ◌+◌, ◌*◌, ◌≤◌}
use Rattle.records.specs.declared.statements.Stated.{Stated}
use Rattle.records.specs.declared.statements.Stated.TheVariants.{Accepts, Prints, Refuses}

abbrev pub TextLies : ℕ → Stated → Type 0
TextLies n (Accepts pieces largest) = Unit {0}
TextLies n (Prints text end pieces) = (text ≤ end) × (end + 2 + 4 * pieces ≤ n)
TextLies n (Refuses number place) = Unit {0}
