-- One name more is known, and what its class uses stands behind the others.
use Rattle.jm_class_path.proofs.Steps.{one_found}
use Rattle.jm_class_path.proofs.class_path.ClassPath.found.Goals as goal

pub invariant_of-result : goal.invariant_of-result
invariant_of-result c =
    let inside = c.self.inside in
    let step = one_found inside.names.keys inside.known inside.classes.items (record { within = inside.within; all = inside.used }) c.args.self c.self.view_is c.args.class c.requires
    c.with_next-known.result c.with_next-known.ensures c.keep_uses.new.names.keys c.in_ok-keep_uses.ensures c.push.new.self.items c.in_ok-push.ensures.items in
    (step.1.within, (step.1.all, tt))

pub returns : goal.returns
returns c =
    let inside = c.self.inside in
    (one_found inside.names.keys inside.known inside.classes.items (record { within = inside.within; all = inside.used }) c.args.self c.self.view_is c.args.class c.requires
    c.with_next-known.result c.with_next-known.ensures c.keep_uses.new.names.keys c.in_ok-keep_uses.ensures c.push.new.self.items c.in_ok-push.ensures.items).0
