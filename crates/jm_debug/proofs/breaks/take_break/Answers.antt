-- What is kept is every other place.
use Rattle.std.proofs.Common.{rules}
use Rattle.std.proofs.lemmas.Fn.{filter_same}
use Rattle.std.specs.Prelude.{not}
use Rattle.jm_debug.specs.Session.{same_place}
use Rattle.jm_debug.specs.declared.place.Place.{Place}
use Rattle.jm_debug.proofs.breaks.take_break.Goals as goal

pub returns : goal.returns
returns c = filter_same _ (λ (q : Place). not (same_place c.args.place.now q)) _ (λ q b f called. search rules) _ _ c.retain.ensures.filtered
