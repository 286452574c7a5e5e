use Rattle.jm_par_copy.proofs.Rounds.{ready_then, round_of}
use Rattle.jm_par_copy.proofs.spans.make_span.Goals as goal

pub forward_own_span-requires-clause-ready : goal.forward_own_span-requires-clause-ready
forward_own_span-requires-clause-ready g c = ready_then c.args.round.now.from.stores.now c.args.round.now.from.roots.now c.args.round.now.words.now c.args.copier.now c.forward_own_roots.new.copier c.requires.ready c.forward_own_roots.ensures.on c.in-Ok.ensures.kept c.in-Ok.ensures.rooted

pub returns-clause-round : goal.returns-clause-round
returns-clause-round g c = round_of c.args.round.now.from.stores.now c.args.round.now.from.roots.now c.args.copier.now c.forward_own_roots.new.copier c.forward_own_span.new.copier c.forward_own_roots.ensures.on c.in-Ok.ensures.kept c.in-Ok.ensures.rooted c.forward_own_span.ensures.scan
