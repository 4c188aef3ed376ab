-- A text brought to a width by the three writes that make it. Assumes nothing.
use mathlib.Core.Path.{◌≡◌, refl, sym, ap, subst, ◌∙◌}
use mathlib.Core.List.{List, ◌++◌, append_assoc}
use Prim.Native.Nat.{ℕ, ◌+◌, ◌-◌, ◌≤◌}
use native.Mathlib.Nat.{add_assoc}
use native.Mathlib.Omega.{arith}
use lib.ListN.{length, take, drop, length-append, length-drop}
use lib.Seq.{length-take-le, take-append-add, drop-append-add, take-append_seam, drop-append_seam, drop_at, drop-drop}
use borrow.Author.Tests.{leb-true, leb-false}
use borrow.Rule.Slice.PartMut.{put_mid, mid_of}
use Rattle.writing.specs.Laid.{laid}
use Rattle.writing.specs.Writers.{Put}
use Rattle.writing.proofs.Laid.{lent_back, laid-room, laid_no_room}
use Rattle.frames.specs.Frame.{head_text, tail_text, frame_of, padded}
use Rattle.frames.specs.declared.Mark.{Mark}
use Rattle.frames.specs.declared.Prefix.{Prefix}
use Rattle.frames.specs.declared.Adjust.{Adjust}
use Rattle.frames.specs.declared.Frame.{Frame}
use Rattle.frames.proofs.Padded.{padded-is, padded-size}
use Rattle.std.specs.Prelude.{Option, Some, None}
use Rattle.std.specs.Option.{is_some}
use Rattle.frames.specs.Around.{laid_from, around, Holds, FramePut}
use Rattle.frames.specs.declared.layout.Framed.{Framed}

-- The text in its frame: written to its place, which is n bytes long, where frame and text fit.
around_filled : (d h b t : List ℕ) → (length h + length t) + length b ≤ length d
    → laid_from (length h) (laid_from (length h + length b) (laid d h) t) b ≡ laid d (h ++ (b ++ t))
unfolding laid
around_filled d h b t room =
    let gap : List ℕ = take (length b) (drop (length h) d) in
    let rest : List ℕ = t ++ drop (length t) (drop (length b) (drop (length h) d)) in
    let long : length gap ≡ length b = length-take-le (length b) (drop (length h) d) (simp length-drop (omega arith)) in
    simp (
      take-append-add,
      drop-append-add,
      append_assoc,
      take-append_seam,
      drop-append_seam,
      drop_at gap rest (length b) long,
    ) (simp (drop-drop, length-append, add_assoc))

-- Where the text has a place, frame and text have room, and so has the text from there on.
room_around : (d : List ℕ) (f : Frame) (n : ℕ) (r : Framed) (D : List ℕ) (at : ℕ) → FramePut d f n r D → r.at ≡ Some at → r.added + n ≤ length d
room_around d f n r D at h e = leb-true (r.added + n) (length d) (sym h.fits ∙ ap is_some e)

put_at : (d : List ℕ) (f : Frame) (n : ℕ) (r : Framed) (D : List ℕ) (at : ℕ) → FramePut d f n r D → r.at ≡ Some at
    → (at ≡ length (head_text f)) × (D ≡ around d f n)
put_at d f n r D at h e = subst (λ (o : Option ℕ). Holds d f n o D) e h.holds

pub framed-room : (d : List ℕ) (f : Frame) (n : ℕ) (r : Framed) (D : List ℕ) (at : ℕ) → FramePut d f n r D → r.at ≡ Some at → at + n ≤ length d
framed-room d f n r D at h e = omega (arith, room_around d f n r D at h e, put_at d f n r D at h e, h.added)

module _ (w : ℕ) (a : Adjust) (m : Mark) (p : Prefix) (body : List ℕ) (n : ℕ) (q : n ≡ length body) (d : List ℕ) (r : Framed) (D : List ℕ)
    (h : FramePut d (frame_of w a m p n) n r D) where
  frame : Frame
  frame = frame_of w a m p (length body)

  put : FramePut d frame (length body) r D
  unfolding frame
  put = subst (λ (k : ℕ). FramePut d (frame_of w a m p k) k r D) q h

  size : r.added + n ≡ length (padded w a m p body)
  unfolding frame
  size = ap (λ (k : ℕ). r.added + k) q ∙ ap (λ (k : ℕ). k + length body) put.added ∙ sym (padded-size w a m p body frame refl)

  -- Y is what the writer of the text left of the part from its place on.
  pub framed_put : (at : ℕ) → r.at ≡ Some at → (Y : List ℕ) → Y ≡ laid (mid_of at (length D - at) D) body
      → Put d (padded w a m p body) (r.added + n) (put_mid at (length D - at) D Y)
  unfolding frame
  framed_put at e Y y =
      let f = frame_of w a m p (length body) in
      let room = room_around d f (length body) r D at put e in
      let held = put_at d f (length body) r D at put e in (
        size,
        ap (put_mid at (length D - at) D) y
            ∙ lent_back D body at
            ∙ rw (held.0, held.1) (around_filled d (head_text f) body (tail_text f) (omega (arith, put.added)))
            ∙ ap (laid d) (sym (padded-is w a m p body f refl))
            ∙ sym (laid-room d (padded w a m p body) (omega (arith, size))),
      )

  pub framed_not : r.at ≡ None → Put d (padded w a m p body) (r.added + n) D
  framed_not e =
      let small = leb-false (r.added + length body) (length d) (sym put.fits ∙ ap is_some e) in
      let held : D ≡ d = subst (λ (o : Option ℕ). Holds d frame (length body) o D) e put.holds in
      (size, held ∙ sym (laid_no_room d (padded w a m p body) (omega (arith, size))))

-- what a caller of put_frame needs
pub ruleset framing = (framed-room, framed_put, framed_not)
