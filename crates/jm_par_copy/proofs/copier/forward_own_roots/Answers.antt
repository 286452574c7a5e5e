use Rattle.jm_copy.proofs.Steps.{root_reached}
use Rattle.jm_copy.specs.Condemned.{objects_at}
use Rattle.jm_par_copy.proofs.Rounds.{share_kept}
use Rattle.jm_par_copy.proofs.copier.forward_own_roots.Goals as goal

pub forward_share-requires-clause-reach : goal.forward_share-requires-clause-reach
forward_share-requires-clause-reach g c i p e o f = root_reached (objects_at c.args.round.now.from.stores.now) c.args.round.now.from.roots.now i p o e f

pub returns-clause-kept : goal.returns-clause-kept
returns-clause-kept g c =
    let e = c.in_ok-forward_share.ensures in
    share_kept c.args.round.now.from.stores.now c.args.round.now.from.roots.now c.args.round.now.words.now c.args.copier.now c.forward_share.new.own c.forward_share.new.places c.args.copier.now.span _ _ c.requires.ready c.forward_share.ensures.on e.working e.listed e.learns
