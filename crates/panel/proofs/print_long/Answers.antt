-- `panel::print_long` meets its contract. Assumes nothing.
use Prim.Native.Nat.{ℕ}
use mathlib.Core.Path.{ap, ◌∙◌}
use mathlib.Core.List.{List}
use native.Mathlib.Omega.{arith}
use Rattle.writing.specs.Laid.{laid}
use Rattle.parsing.proofs.Cover.{few}
use Rattle.rows.specs.Row.{kinds_of}
use Rattle.outcomes.proofs.Accepted.{fitted}
use Rattle.words.specs.LittleEndian.{all_bytes}
use Rattle.panel.proofs.Slots.{text_of, ends_of}
use Rattle.panel.proofs.print_long.Goals as goal

pub returns : goal.returns
returns c =
    let a = c.args in
    let k = fitted a.fmt.now a.row.now _ _ _ c.requires in
    let v = c.stage.ensures.staged in
    let text = text_of a.fmt.now a.row.now _ _ _ k _ _ _ _ v k.bytes in
    let z = ends_of a.fmt.now a.row.now _ _ _ k _ _ _ _ v (omega (arith, k.accepts.pieces, (few a.fmt.now (kinds_of a.row.now)).0)) in
    (text, c.write_fours.ensures ∙ ap (λ (l : List ℕ). laid a.ends.now (all_bytes l)) z)
