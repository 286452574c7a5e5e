use Rattle.std.proofs.Common.{refl, subst}
use Rattle.jm_par_copy.specs.Steps.{AllReach, places_of}
use Rattle.jm_par_copy.proofs.Rounds.{ready_then, refused_round, round_of}
use Rattle.jm_par_copy.proofs.copier.make_round.Goals as goal

pub scan_blocks-requires : goal.scan_blocks-requires
scan_blocks-requires g c = record { ready = ready_then c.args.round.now.from.stores.now c.args.round.now.from.roots.now c.args.round.now.words.now c.args.copier.now c.forward_own_roots.new.copier c.requires.ready c.forward_own_roots.ensures.on c.in-Ok.ensures.kept c.in-Ok.ensures.rooted }

pub returns-in_default : goal.returns-in_default
returns-in_default g c = refused_round c.args.round.now.from.stores.now c.args.round.now.from.roots.now c.args.copier.now c.forward_own_roots.new.copier _ c.forward_own_roots.ensures.on refl

pub forward_own_share-requires-clause-reach : goal.forward_own_share-requires-clause-reach
forward_own_share-requires-clause-reach g c = subst (λ t. AllReach c.args.round.now (places_of t)) c.in-Forward.is c.requires.reach

pub returns-in-Forward : goal.returns-in-Forward
returns-in-Forward g c = round_of c.args.round.now.from.stores.now c.args.round.now.from.roots.now c.args.copier.now c.forward_own_roots.new.copier c.forward_own_share.new.copier c.forward_own_roots.ensures.on c.in-Ok.ensures.kept c.in-Ok.ensures.rooted c.forward_own_share.ensures

pub returns-in-Scan : goal.returns-in-Scan
returns-in-Scan g c = round_of c.args.round.now.from.stores.now c.args.round.now.from.roots.now c.args.copier.now c.forward_own_roots.new.copier c.scan_blocks.new.copier c.forward_own_roots.ensures.on c.in-Ok.ensures.kept c.in-Ok.ensures.rooted c.scan_blocks.ensures
