-- `elements::pieces::put_piece` meets its contract. Assumes nothing.
use mathlib.Core.Path.{subst}
use Rattle.elements.specs.Ready.{Ready}
use Rattle.elements.proofs.PieceTexts.{found_suited}
use Rattle.elements.proofs.pieces.put_piece.Goals as goal

pub put_element-requires : goal.put_element-requires
put_element-requires c =
    let r = subst (Ready c.args.fmt.now c.args.row.now) c.in-Element.is c.requires in
    found_suited c.args.fmt.now c.args.row.now c.in-Element.e r.kept r.inside
