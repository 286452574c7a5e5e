use Rattle.std.proofs.Common.{refl}
use Rattle.jm_par_copy.proofs.Rounds.{share_kept}
use Rattle.jm_par_copy.proofs.copier.forward_own_share.Goals as goal

pub returns : goal.returns
returns g c =
    let e = c.in-Ok.ensures in
    let was = c.args.copier.now in
    record {
      on = c.forward_share.ensures.on;
      places = refl;
      rooted = refl;
      kept = λ f. share_kept c.args.round.now.from.stores.now c.args.round.now.from.roots.now c.args.round.now.words.now was c.forward_share.new.own was.roots was.span was.rooted was.refused c.requires.ready c.forward_share.ensures.on e.working e.listed e.learns;
    }
