use Rattle.std.proofs.Common.{◌∷◌, drop, refl, subst}
use Rattle.jm_frames.specs.FrameView.{with_stack}
use Rattle.jm_state.specs.declared.thread.StackFrame.TheVariants.{Method}
use Rattle.jm_state.specs.declared.thread.Thread as held
use Rattle.jm_interp.specs.Standing.{Stands}
use Rattle.jm_interp.proofs.TopFrames.{top_more}
use Rattle.jm_interp.proofs.calls.call_on_top.Goals as goal

pub returns-in-Some-clause-called : goal.returns-in-Some-clause-called
returns-in-Some-clause-called c = λ done m there f below r s.
    let begun = c.in-Some.ensures.begun m there f below r s in
    let caller = Method (with_stack f (drop c.args.count f.activation.stack)) in
    let new : held.Thread = record c.begin_on_top.new.thread { frames = c.push_reserved.new.self } in
    let above = top_more c.begin_on_top.new.thread new (Method c.in-Some.frame) (caller ∷ below) r begun.1 c.push_reserved.ensures.items refl in
    subst (λ x. Stands new (Method x ∷ caller ∷ below) r) begun.0 above

pub returns-in-None-clause-stays : goal.returns-in-None-clause-stays
returns-in-None-clause-stays c = λ done. c.in-None.ensures.stays refl
