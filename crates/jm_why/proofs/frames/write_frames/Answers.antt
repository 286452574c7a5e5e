-- Each turn writes the line of a frame.
use Rattle.std.proofs.Common.{◌≡◌, ◌++◌, None, Some, ap, sym, ◌∙◌}
use Rattle.std.specs.Prelude.{slice_get}
use Rattle.jm_program.proofs.Sequences.{got_past}
use Rattle.jm_world.specs.World.{thread_at}
use Rattle.jm_machine.specs.Readers.{model_frame}
use Rattle.jm_trace.proofs.Operands.{all_left, one_more, no_more}
use Rattle.jm_why.specs.Kept.{frame_line, frames_of, frames_text}
use Rattle.jm_why.proofs.Threads.{frame_of_thread}
use Rattle.jm_why.proofs.frames.write_frames.Goals as goal

pub loop-depth-init : goal.loop-depth-init
unfolding frames_text
loop-depth-init g c = λ w m. ap (λ u. c.args.out.now.bytes.items ++ u) (all_left (frame_line w.program) (frames_of (thread_at w c.args.thread)))

pub returns-in_default : goal.returns-in_default
returns-in_default g c = λ w m.
    let frames = frames_of (thread_at w c.args.thread) in
    let none : slice_get frames c.loop-depth.depth ≡ None = sym (frame_of_thread (thread_at w c.args.thread) c.loop-depth.depth) ∙ c.in_default.ensures.frame w m in
    no_more (frame_line w.program) frames c.loop-depth.depth _ _ (got_past frames c.loop-depth.depth none) (c.loop-depth.invariant w m)

pub loop-depth-preserved : goal.loop-depth-preserved
loop-depth-preserved g c = λ w m.
    let frames = frames_of (thread_at w c.args.thread) in
    let there : slice_get frames c.loop-depth.depth ≡ Some (model_frame c.in-Some.frame) = sym (frame_of_thread (thread_at w c.args.thread) c.loop-depth.depth) ∙ c.in-Some.ensures.frame w m in
    one_more (frame_line w.program) frames c.loop-depth.depth (model_frame c.in-Some.frame) _ _ _ there (c.in_ok-write_frame.ensures w.program (c.in-Some.ensures.method w m)) (c.loop-depth.invariant w m)
