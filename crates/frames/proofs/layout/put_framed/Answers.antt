-- `frames::layout::put_framed` meets its contract. Assumes nothing.
use Rattle.std.proofs.Common.{refl, sym, ◌∙◌}
use Rattle.frames.specs.Frame.{frame_of}
use Rattle.frames.specs.Around.{FramePut}
use Rattle.frames.proofs.Around.{framed_put, framed_not}
use Rattle.frames.proofs.Padded.{bare_frame}
use Rattle.frames.proofs.layout.put_framed.Goals as goal
use Rattle.frames.proofs.layout.put_framed.Goals.{then-is_bare, else-is_bare, in-Some, in_default}

pub returns-clause-text : goal.returns-clause-text
returns-clause-text g c body size wrote =
    let a = c.args in
    let d = a.out.now in
    let f = c.if-is_bare in
    let put : FramePut d (frame_of a.width a.adjust a.mark a.prefix a.n) a.n f.framed f.out =
    elim f.branch [
      | then-is_bare w ↦
          let bare = sym c.is_bare.ensures ∙ w.if-is_bare.true in
          rw (w.out-is, w.framed-is, bare_frame a.width a.adjust a.mark a.prefix a.n bare) w.put_frame-framed.ensures
      | else-is_bare w ↦ rw (w.out-is, w.framed-is) w.put_frame-framed-else-is_bare.ensures
    ] in
    elim c.match-framed.branch [
      | in-Some w ↦
          rw w.out-is (
          framed_put _ _ _ _ body _ size d _ _ put _ w.in-Some.is _
          (wrote _ _ _ (record { shown = _; shows = refl; left = _; met = w.write.ensures; leaves = refl })).1
          )
      | in_default w ↦ rw w.out-is (framed_not _ _ _ _ body _ size d _ _ put w.in_default.is)
    ]
