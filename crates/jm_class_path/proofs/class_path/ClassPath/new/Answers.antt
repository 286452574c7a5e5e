-- The names that are known from the start, and behind them those that the classes use.
use Rattle.jm_class_path.proofs.Steps.{begins}
use Rattle.jm_class_path.proofs.class_path.ClassPath.new.Goals as goal

pub invariant_of-result : goal.invariant_of-result
invariant_of-result c =
    let start = begins c.args.classes.items c.deref.result.now c.deref-2.result.now c.deref.ensures.value c.deref-2.ensures.value
    c.in_ok-names.names.keys c.keep_all_uses.new.names.keys c.len-known.result c.in_ok-names.ensures c.len-known.ensures.len c.in_ok-keep_all_uses.ensures in
    (start.1.within, (start.1.all, tt))

pub returns : goal.returns
returns c =
    (begins c.args.classes.items c.deref.result.now c.deref-2.result.now c.deref.ensures.value c.deref-2.ensures.value
    c.in_ok-names.names.keys c.keep_all_uses.new.names.keys c.len-known.result c.in_ok-names.ensures c.len-known.ensures.len c.in_ok-keep_all_uses.ensures).0
