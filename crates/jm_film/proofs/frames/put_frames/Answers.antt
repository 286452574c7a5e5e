-- Each turn puts the sections of a frame.
use Rattle.std.proofs.Common.{◌≡◌, ◌≤◌, ◌++◌, None, Some, length, ap, arith}
use Rattle.std.specs.Prelude.{slice_get}
use Rattle.jm_program.proofs.Sequences.{got_past}
use Rattle.jm_machine.specs.Readers.{model_frame}
use Rattle.jm_film.proofs.Left.{all_frames, one_more_frame, no_frame_left}
use Rattle.jm_film.proofs.frames.put_frames.Goals as goal

pub loop-depth-init : goal.loop-depth-init
loop-depth-init g c = λ w t m is. ap (λ ps. c.args.view.now.items ++ ps) (all_frames w.program c.args.thread t.frames)

pub returns-in_default : goal.returns-in_default
returns-in_default g c = λ w t m is.
    let none : slice_get t.frames c.loop-depth.depth ≡ None = rw is at (c.in_default.ensures.frame w m) in
    no_frame_left w.program c.args.thread t.frames c.loop-depth.depth _ _ (got_past t.frames c.loop-depth.depth none) (c.loop-depth.invariant w t m is)

pub loop-depth-preserved : goal.loop-depth-preserved
loop-depth-preserved g c = λ w t m is.
    let there : slice_get t.frames c.loop-depth.depth ≡ Some (model_frame c.in-Some.frame) = rw is at (c.in-Some.ensures.frame w m) in
    one_more_frame w.program c.args.thread t.frames c.in_ok-count.count c.loop-depth.depth (model_frame c.in-Some.frame) _ _ _ (c.in_ok-count.ensures w t m is) there
    (c.in_ok-put_frame.ensures w.program (c.in-Some.ensures.method w m)) (c.loop-depth.invariant w t m is)

pub returns : goal.returns
returns g c = λ w t m is.
    let past : length t.frames ≤ c.loop-depth.depth = omega (arith, c.in_ok-count.ensures w t m is) in
    no_frame_left w.program c.args.thread t.frames c.loop-depth.depth _ _ past (c.loop-depth.invariant w t m is)
