-- What printing's contract says of what a call left, for what a record states. Assumes nothing.
use Rattle.std.specs.Prelude.{Ok, Err}
use mathlib.Core.Path.{◌≡◌, sym, ap, ◌∙◌}
use mathlib.Core.Bool.{Bool}
use mathlib.Core.List.{List}
use Prim.Native.Nat.{ℕ, ◌≤◌}
use native.Mathlib.Omega.{arith}
use lib.ListN.{length, take, drop}
use lib.Seq.{take_at, length-take-le}
use Rattle.writing.specs.Laid.{laid}
use Rattle.parsing.specs.Listed.{placed}
use Rattle.rows.specs.Row.{kinds_of}
use Rattle.outcomes.specs.Printed.{Outcome, texts, printed_text, ends_from, printed, written}
use Rattle.outcomes.proofs.Accepted.{Accepts, fitted}
use Rattle.outcomes.proofs.Joined.{ends_length}
use Rattle.outcomes.proofs.Texts.{texts-length}
use Rattle.records.specs.Comparing.{states_printed}
use Rattle.records.specs.declared.statements.Stated.{Stated}
use Rattle.vectors.specs.Right.{states_outcome}
use Rattle.vectors.specs.Left.{states_left, InRoom}

-- What a call accepts lies in the slices that it was lent, m bytes and n ends.
pub in_room : (f r : List ℕ) (o : Outcome) (room slots m n : ℕ) → o ≡ printed f r room slots → room ≡ m → slots ≡ n → InRoom o m n
in_room f r (Ok x) room slots m n e p q =
    let t = fitted f r room slots x (sym e) in
    (omega (arith, t.bytes, p), omega (arith, t.slots_enough, q))
in_room f r (Err x) room slots m n e p q = tt

-- The first n bytes and k ends are as many.
pub as_long : (s : List ℕ) (stated : Stated) (out ends : List ℕ) (n k : ℕ) (b : Bool) → n ≤ length out → k ≤ length ends
    → b ≡ states_printed s stated (length (take n out)) (length (take k ends)) (take n out) (take k ends)
    → b ≡ states_printed s stated n k (take n out) (take k ends)
as_long s stated out ends n k b h g e =
    e
    ∙ ap (λ (x : ℕ). states_printed s stated x (length (take k ends)) (take n out) (take k ends)) (length-take-le n out h)
    ∙ ap (λ (x : ℕ). states_printed s stated n x (take n out) (take k ends)) (length-take-le k ends g)

-- The start of what a text was laid over is the text.
front : (d t : List ℕ) (n : ℕ) → length t ≡ n → take n (laid d t) ≡ t
unfolding laid
front d t n e = take_at t (drop (length t) d) n e

as_many : (f r : List ℕ) (n k : ℕ) → Accepts f r n k → length (ends_from 0 (texts f r)) ≡ k
unfolding texts
as_many f r n k a = ends_length 0 (texts f r) ∙ texts-length f r (placed f (kinds_of r)) ∙ sym a.pieces

-- What is left of a call is the text and the ends of the definitions.
pub left_right : (s : List ℕ) (stated : Stated) (f r d e out ends : List ℕ) (o : Outcome) → o ≡ printed f r 2048 512
    → out ≡ written o d (printed_text f r) → ends ≡ written o e (ends_from 0 (texts f r))
    → states_left s stated out ends o ≡ states_outcome s stated (printed_text f r) (ends_from 0 (texts f r)) (printed f r 2048 512)
left_right s stated f r d e out ends (Ok m) p q w =
    let t = printed_text f r in
    let u = ends_from 0 (texts f r) in
    let a = (fitted f r 2048 512 m (sym p)).accepts in
    ap (λ (x : List ℕ). states_printed s stated m.length m.pieces x (take m.pieces ends)) (ap (take m.length) q ∙ front d t m.length (sym a.total))
    ∙ ap (λ (x : List ℕ). states_printed s stated m.length m.pieces t x) (ap (take m.pieces) w ∙ front e u m.pieces (as_many f r m.length m.pieces a))
    ∙ ap (states_outcome s stated t u) p
left_right s stated f r d e out ends (Err x) p q w = ap (states_outcome s stated (printed_text f r) (ends_from 0 (texts f r))) p
