-- The same gates in another order: a list of gates is meant as a set. For laws, and for what the memory of a list holds.
use Rattle.std.specs.Prelude.{ℕ, List, [], ◌∷◌, get_or}
use Rattle.gates.specs.Gates.{Gate}

pub data SameGates : List Gate → List Gate → Type 0 where
  none : SameGates [] []
  next : {a b : List Gate} (g : Gate) → SameGates a b → SameGates (g ∷ a) (g ∷ b)
  swapped : {a : List Gate} (g h : Gate) → SameGates (g ∷ h ∷ a) (h ∷ g ∷ a)
  through : {a b c : List Gate} → SameGates a b → SameGates b c → SameGates a c

-- The i-th gate; what stands where no gate does is never asked for.
abbrev pub no_gate : Gate
no_gate = record { number = 0; row = [] }

abbrev pub gate_at : List Gate → ℕ → Gate
gate_at gates i = get_or gates i no_gate
