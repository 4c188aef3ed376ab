-- `sheet::run` meets its contract: the answer lies in the array lent to it, and what was read is all of the input that counts. Assumes nothing.
use Rattle.std.proofs.Common.{◌≡◌, ℕ, ◌<◌, ◌≤◌, inl, inr, Option, Some, None, IfSome, List, [], ◌++◌, length, take, sym, ap, ◌∙◌, subst, arith, append-nil, length-take-le}
use Rattle.std.proofs.lemmas.Bool.{cases_lt}
use Rattle.std.proofs.lemmas.List.{take-append-le, take_at}
use Rattle.std.proofs.lemmas.Result.{on_ok_weaker}
use Rattle.std.specs.Io.KnownBytes.{Consumes, IsAtEnd, Appends}
use Rattle.writing.specs.Laid.{laid}
use Rattle.writing.proofs.Laid.{text-within}
use Rattle.answers.specs.Answers.{answer_text, sheet_text}
use Rattle.sheet.proofs.run.Goals as goal

-- The answer is no longer than what holds it.
within : (d out t : List ℕ) (len : ℕ) → len ≡ length t → out ≡ laid d t → len ≤ length out
within d out t len e f = rw (e, f) (text-within d t)

-- What is written is the text.
front : (d out t : List ℕ) (len : ℕ) → len ≡ length t → out ≡ laid d t → take len out ≡ t
unfolding laid
front d out t len e f = ap (take len) f ∙ take_at t _ len (sym e)

-- What was read is all of the input that is looked at.
looked_at : (xs ys buf : List ℕ) (n : ℕ) → length buf ≡ 65536 → n ≤ length buf → xs ≡ take n buf ++ ys → (n < length buf → ys ≡ []) → sheet_text (take n buf) ≡ sheet_text xs
unfolding sheet_text
looked_at xs ys buf n l h k e =
    elim (cases_lt n (length buf)) [
      | inl lt ↦ ap sheet_text (sym (k ∙ ap (λ z. take n buf ++ z) (e lt) ∙ append-nil (take n buf)))
      | inr ge ↦
          let full : 65536 ≤ length (take n buf) = omega (arith, length-take-le n buf h) in
          ap answer_text (sym (take-append-le 65536 (take n buf) ys full) ∙ ap (take 65536) (sym k))
    ]

-- The answer to what was read is the answer to the whole input.
whole : (a b : Option (List ℕ)) (buf : List ℕ) (n : ℕ) (P : List ℕ → Type 0) → length buf ≡ 65536 → n ≤ length buf → Consumes a b (take n buf)
    → (n < length buf → IsAtEnd b) → P (sheet_text (take n buf)) → IfSome a (λ input. P (sheet_text input))
whole None b buf n P l h k e p = tt
whole (Some xs) None buf n P l h k e p = absurd k
whole (Some xs) (Some ys) buf n P l h k e p = subst P (looked_at xs ys buf n l h k e) p

pub slice_bounds-answer-end : goal.slice_bounds-answer-end
slice_bounds-answer-end g c = let e = c.write_answer-len.ensures in omega (arith, within _ _ _ _ e.0 e.1)

pub slice_bounds-write_all-end : goal.slice_bounds-write_all-end
slice_bounds-write_all-end g c = let e = c.write_answer-len.ensures in sym (length-take-le _ _ (omega (arith, within _ _ _ _ e.0 e.1)))

pub returns : goal.returns
returns g c =
    let e = c.write_answer-len.ensures in
    let r = c.in_ok-n.ensures in
    let P : List ℕ → Type 0 = λ t. Appends (g.W.Write.contents c.args.to.now) (g.W.Write.contents c.write_all.new.self) t in
    on_ok_weaker c.write_all.result
    (λ p. whole _ _ c.read_full.new.buf c.in_ok-n.n P c.read_full.auto.buf r.in_bounds r.bytes r.whole (subst P (front _ _ _ _ e.0 e.1) p))
    c.write_all.ensures.bytes
