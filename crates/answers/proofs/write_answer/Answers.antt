-- `answers::write_answer` meets its contract: an input is looked at up to its most bytes. Assumes nothing.
use Rattle.std.proofs.Common.{◌≡◌, min, length, arith}
use Rattle.std.proofs.lemmas.List.{take_min}
use Rattle.answers.specs.Answers.{most_input, sheet_text}
use Rattle.answers.proofs.write_answer.Goals as goal

pub returns : goal.returns
unfolding sheet_text
returns c =
    let s = c.args.input.now in
    let n : c.min.result ≡ min most_input (length s) = omega (arith, c.min.ensures) in
    rw (← take_min most_input s, ← n) c.write_parts.ensures
