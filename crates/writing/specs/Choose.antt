-- A choice by a test.
use Rattle.std.specs.Prelude.{Bool, true, false}

-- The first where the test holds, else the second. Each waits for `tt`, so that only the one that is taken is computed.
abbrev pub choose : {A : Type 0} → Bool → (Unit {0} → A) → (Unit {0} → A) → A
choose true a b = a tt
choose false a b = b tt
