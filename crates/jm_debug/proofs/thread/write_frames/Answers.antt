-- Each turn writes the line of a frame.
use Rattle.std.proofs.Common.{◌≡◌, ◌++◌, None, Some, ap}
use Rattle.std.specs.Prelude.{slice_get}
use Rattle.jm_program.proofs.Sequences.{got_past}
use Rattle.jm_machine.specs.Readers.{model_frame}
use Rattle.jm_debug.specs.Views.{frame_lines}
use Rattle.jm_debug.proofs.Written.{all_left, one_more, no_more}
use Rattle.jm_debug.proofs.thread.write_frames.Goals as goal

pub loop-depth-init : goal.loop-depth-init
loop-depth-init g c = λ w t m is. ap (λ u. c.args.out.now.bytes.items ++ u) (all_left (frame_lines w.program) t.frames)

pub returns-in_default : goal.returns-in_default
returns-in_default g c = λ w t m is.
    let none : slice_get t.frames c.loop-depth.depth ≡ None = rw is at (c.in_default.ensures.frame w m) in
    no_more (frame_lines w.program) t.frames c.loop-depth.depth _ _ (got_past t.frames c.loop-depth.depth none) (c.loop-depth.invariant w t m is)

pub loop-depth-preserved : goal.loop-depth-preserved
loop-depth-preserved g c = λ w t m is.
    let there : slice_get t.frames c.loop-depth.depth ≡ Some (model_frame c.in-Some.frame) = rw is at (c.in-Some.ensures.frame w m) in
    let written = c.in_ok-write_frame.ensures w.program (c.in-Some.ensures.method w m) in
    one_more (frame_lines w.program) t.frames c.loop-depth.depth (model_frame c.in-Some.frame) _ _ _ there written (c.loop-depth.invariant w t m is)
