use Rattle.std.proofs.Common.{refl}
use Rattle.std.specs.Prelude.{Ok}
use Rattle.jm_frames.specs.Made.{outcome}
use Rattle.jm_values.specs.Constants.{push_constant}
use Rattle.jm_interp.proofs.TopFrames.{stepped, push_goes, push_same}
use Rattle.jm_interp.proofs.top_frame.push_top.Goals as goal

pub returns-in-Ok : goal.returns-in-Ok
returns-in-Ok c f below r s =
    stepped c.args.thread.now _ (push_constant c.args.value)
    (outcome (Ok tt)) f c.in-Method.frame c.go_on.new.self below r c.in-Some.top.now s c.in-Some.ensures.value c.in-Method.is refl refl
    (push_goes c.in-Method.frame c.push.new.self c.go_on.new.self c.args.value c.in-Ok.ensures.result c.in-Ok.ensures.ok c.go_on.ensures)
    tt
    (push_same c.in-Method.frame c.push.new.self c.go_on.new.self c.args.value c.in-Ok.ensures.ok c.go_on.ensures)
