use Rattle.std.proofs.Common.{◌∙◌}
use Rattle.jm_par_copy.specs.Working.{known_to}
use Rattle.jm_par_copy.proofs.Claiming.{claiming_refl, learns_refl}
use Rattle.jm_par_copy.proofs.Joined.{null_stays}
use Rattle.jm_par_copy.proofs.spans.forward_reference.Goals as goal

pub returns-in_default : goal.returns-in_default
returns-in_default g c = record {
  forwarded = λ base. null_stays c.args.round.now.from.stores.now (known_to base c.args.own.now.seat.hand) c.args.reference c.args.round.now.source.lanes (λ p e. c.in_default.not-Ref p (c.value.ensures.value ∙ e));
  place = λ h. h;
  working = λ base held k rest done w. w;
  learns = learns_refl c.args.own.now.seat.hand;
  keeps = λ n o e. e;
  on = claiming_refl c.args.own.now;
}
