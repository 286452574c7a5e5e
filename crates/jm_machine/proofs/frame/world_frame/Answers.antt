use Rattle.std.proofs.Common.{sym, ap, ◌∙◌, subst}
use Rattle.jm_values.specs.Content.{name_of}
use Rattle.jm_world.specs.Frames.{initialization_frame, rename_frame}
use Rattle.jm_state.specs.Parts.{frame_part}
use Rattle.jm_state.specs.Runnable.{FrameRuns}
use Rattle.jm_machine.proofs.Parted.{indexed}
use Rattle.jm_machine.proofs.Told.{class_name_is}
use Rattle.jm_machine.proofs.frame.world_frame.Goals as goal

pub returns-in-Initialization-clause-frame : goal.returns-in-Initialization-clause-frame
returns-in-Initialization-clause-frame g c =
    let l = c.args.linked.now in
    let n = c.in-Initialization.class in
    let class = c.index-classes-class.result in
    let here = indexed _ l.program n class c.classes.ensures.classes (subst (FrameRuns l) c.in-Initialization.is c.requires.runs) c.index-classes-class.is in
    ap (λ name. initialization_frame name c.in-Initialization.stage) (sym (class_name_is l.program n class here))
    ∙ sym (ap (λ x. rename_frame (name_of (g.H.Heap.content c.args.heap.now)) (frame_part l x)) c.in-Initialization.is)
