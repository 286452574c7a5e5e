-- A blank, and what is next there.
use Rattle.std.proofs.Common.{◌≡◌, OnOk, subst}
use Rattle.jm_machine.specs.Readers.{model_frame}
use Rattle.jm_trace.proofs.Standing.{stands}
use Rattle.jm_trace.proofs.event_line.write_standing_part.Goals as goal

pub returns : goal.returns
returns g c = λ w m.
    subst (λ t. OnOk c.write_standing.result (c.write_standing.new.out.bytes.items ≡ t))
    (stands w _ (model_frame c.in-Some.frame) c.args.out.now.bytes.items _ (c.in-Some.ensures.frame w m) c.in_ok-push_str.ensures.bytes)
    (c.write_standing.ensures w.program (c.in-Some.ensures.method w m))
