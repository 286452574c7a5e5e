use Rattle.std.proofs.Common.{refl}
use Rattle.jm_par_copy.proofs.Rounds.{share_kept}
use Rattle.jm_par_copy.proofs.spans.forward_own_span.Goals as goal

pub returns-clause-scan : goal.returns-clause-scan
returns-clause-scan g c =
    let e = c.in-Ok.ensures in
    let was = c.args.copier.now in
    record {
      on = c.forward_references.ensures.on;
      places = refl;
      rooted = refl;
      kept = λ f. share_kept c.args.round.now.from.stores.now c.args.round.now.from.roots.now c.args.round.now.words.now was c.forward_references.new.own was.roots c.forward_references.new.span was.rooted was.refused c.requires.ready c.forward_references.ensures.on e.working e.listed e.learns;
    }
