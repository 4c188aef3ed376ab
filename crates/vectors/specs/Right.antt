-- Whether a record states what the definitions give: `checked` of its format and kinds, or what its row prints under its format into 2,048 bytes and
-- 512 ends.
use Rattle.std.specs.Prelude.{ℕ, Bool, List, Result, Ok, Err}
use Rattle.writing.specs.Choose.{choose}
use Rattle.parsing.specs.Check.{checked}
use Rattle.parsing.specs.declared.Checked.{Checked}
use Rattle.outcomes.specs.Printed.{Outcome, texts, printed_text, ends_from, printed}
use Rattle.refusals.specs.Numbers.{refusal_number}
use Rattle.records.specs.Comparing.{states_accepted, states_refused, states_printed}
use Rattle.records.specs.declared.statements.Stated.{Stated}
use Rattle.records.specs.Records.{format_of, values_of}
use Rattle.records.specs.declared.Record.{Record}
use Rattle.refusals.specs.declared.Stop.{Stop}

abbrev pub states_checked : Stated → Result Checked Stop → Bool
states_checked stated (Ok found) = states_accepted stated found.pieces found.largest
states_checked stated (Err t) = states_refused stated (refusal_number t.refusal) t.place

abbrev pub states_outcome : List ℕ → Stated → List ℕ → List ℕ → Outcome → Bool
states_outcome s stated text ends (Ok m) = states_printed s stated m.length m.pieces text ends
states_outcome s stated text ends (Err t) = states_refused stated (refusal_number t.refusal) t.place

unfoldable pub checks_right : List ℕ → Record → Bool
checks_right s r = states_checked r.stated (checked (format_of s r) (values_of s r))

unfoldable pub prints_right : List ℕ → Record → Bool
prints_right s r =
    states_outcome s r.stated (printed_text (format_of s r) (values_of s r)) (ends_from 0 (texts (format_of s r) (values_of s r)))
    (printed (format_of s r) (values_of s r) 2048 512)

abbrev pub is_right : List ℕ → Record → Bool
is_right s r = choose r.prints (λ _. prints_right s r) (λ _. checks_right s r)
