-- One name more is known.
use Rattle.jm_class_path.proofs.Steps.{none_found}
use Rattle.jm_class_path.proofs.class_path.ClassPath.not_found.Goals as goal

pub invariant_of-result : goal.invariant_of-result
invariant_of-result c =
    let inside = c.self.inside in
    let step = none_found inside.names.keys inside.known inside.classes.items (record { within = inside.within; all = inside.used }) c.args.self c.self.view_is c.requires c.with_next-known.result c.with_next-known.ensures in
    (step.1.within, (step.1.all, tt))

pub returns : goal.returns
returns c =
    let inside = c.self.inside in
    (none_found inside.names.keys inside.known inside.classes.items (record { within = inside.within; all = inside.used }) c.args.self c.self.view_is c.requires c.with_next-known.result c.with_next-known.ensures).0
