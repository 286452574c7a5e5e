-- All that was cut is one outcome.
use Rattle.std.proofs.Common.{◌∙◌, map}
use Rattle.jm_explore.specs.Outcomes.{thrown_of}
use Rattle.jm_explore.proofs.Ends.{end_cut, end_whole, same_how}
use Rattle.jm_explore.proofs.outcome.end_of.Goals as goal

pub returns-in-Cut : goal.returns-in-Cut
returns-in-Cut g c = λ w m.
    (λ i. record { how = c.how_ended-how.result; output = c.new.ensures.items i; thrown = map thrown_of (c.new-in-Cut.ensures.items i) })
    ∙ end_cut w c.args.cut c.how_ended-how.result (c.how_ended-how.ensures ∙ same_how w c.stop.result c.live.result c.args.cut (c.stop.ensures w m) (c.live.ensures w m)) c.in-Cut.is

pub returns : goal.returns
returns g c = λ w m. end_whole w c.args.cut c.how_ended-how.result c.in_ok-output.output.items (map thrown_of c.in_ok-ended_by.ended_by.items)
    (c.how_ended-how.ensures ∙ same_how w c.stop.result c.live.result c.args.cut (c.stop.ensures w m) (c.live.ensures w m)) c.in_default.not-Cut
    (c.in_ok-output.ensures ∙ c.output.ensures w m) (c.in_ok-ended_by.ensures w m)
