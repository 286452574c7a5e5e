-- It is there or not.
use Rattle.std.proofs.Common.{refl}
use Rattle.jm_explore.proofs.Ends.{none_thrown, pushed_thrown}
use Rattle.jm_explore.proofs.outcome.push_ended.Goals as goal

pub returns : goal.returns
returns g c = λ w m. pushed_thrown c.args.ended.now.items c.push.new.self.items _ c.args.thread c.in-Some.name.now _ c.in-Ok.ensures.items refl c.in_ok-class.ensures (c.in-Some.ensures w m)

pub returns-in_default : goal.returns-in_default
returns-in_default g c = λ w m. none_thrown c.args.ended.now.items c.args.thread _ (c.in_default.ensures w m)
