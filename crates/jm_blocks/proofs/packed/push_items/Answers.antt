use Rattle.std.proofs.Common.{◌∙◌, ap, map}
use Rattle.std.proofs.lemmas.List.{map-append}
use Rattle.std.proofs.lemmas.Result.{on_ok_weaker}
use Rattle.jm_blocks.proofs.packed.push_items.Goals as goal

pub returns-clause-ok : goal.returns-clause-ok
returns-clause-ok g c =
    on_ok_weaker c.append.result (λ w. ap (map g.T.Lies.stands_for) w ∙ map-append g.T.Lies.stands_for c.args.items.now.items c.args.more.now) c.append.ensures.ok
