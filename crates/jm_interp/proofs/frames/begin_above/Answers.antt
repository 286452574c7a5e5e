use Rattle.std.proofs.Common.{refl, ◌∷◌}
use Rattle.jm_state.specs.declared.thread.StackFrame.TheVariants.{Initialization}
use Rattle.jm_state.specs.declared.thread.Thread as held
use Rattle.jm_interp.proofs.TopFrames.{top_more, second_other}
use Rattle.jm_interp.proofs.frames.begin_above.Goals as goal

pub returns : goal.returns
returns c f below r s =
    let t = c.args.thread.now in
    let more : held.Thread = record { object = t.object; serial = t.serial; frames = c.push.new.self; pending = t.pending; ending = t.ending } in
    let begun = top_more t more c.args.above (f ∷ below) r s c.in_ok-push.ensures.items refl in
    second_other more _ c.args.above f (Initialization c.args.class c.args.stage) below r c.len-count.result begun
    c.len-count.ensures refl refl
