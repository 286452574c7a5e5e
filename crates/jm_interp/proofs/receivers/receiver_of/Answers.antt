use Rattle.std.proofs.lemmas.Result.{err_from_is_err_and}
use Rattle.jm_world.specs.Types.{class_type}
use Rattle.jm_interp.proofs.Objects.{lies}
use Rattle.jm_interp.proofs.ReceiverRows.{parameters_are, found_below, found_arguments, no_receiver, its_receiver, named_class, of_another, receives_it}
use Rattle.jm_interp.proofs.receivers.receiver_of.Goals as goal

pub returns-in_err-receiver : goal.returns-in_err-receiver
returns-in_err-receiver g c find h =
    let same = parameters_are h c.in-Some.ensures c.as_slice-parameters.ensures in
    let left = err_from_is_err_and c.from_residual.result c.from_residual.ensures.1 in
    rw (left.1, left.2) (no_receiver h (found_below h c.index.ensures same c.in_err-receiver.ensures.value))

pub class_of-requires : goal.class_of-requires
class_of-requires g c =
    let h = c.requires.1 in
    let same = parameters_are h c.in-Some.ensures c.as_slice-parameters.ensures in
    lies h.method.on (its_receiver h (found_arguments h c.index.ensures same c.in_ok-receiver.ensures.arguments)
    (found_below h c.index.ensures same c.in_ok-receiver.ensures.value))

pub returns-in-Some-true : goal.returns-in-Some-true
returns-in-Some-true g c find h =
    let same = parameters_are h c.in-Some.ensures c.as_slice-parameters.ensures in
    receives_it h (found_arguments h c.index.ensures same c.in_ok-receiver.ensures.arguments)
    (found_below h c.index.ensures same c.in_ok-receiver.ensures.value) c.class_of.ensures
    (c.in-Some-true.ensures (class_type h.is.links.name) (named_class c.args.at.linked.now h.is.links)) c.in-Some-true.field-0-test

pub returns-in-Some-false : goal.returns-in-Some-false
returns-in-Some-false g c find h =
    let same = parameters_are h c.in-Some.ensures c.as_slice-parameters.ensures in
    of_another h (found_arguments h c.index.ensures same c.in_ok-receiver.ensures.arguments)
    (found_below h c.index.ensures same c.in_ok-receiver.ensures.value) c.class_of.ensures
    (c.in-Some-false.ensures (class_type h.is.links.name) (named_class c.args.at.linked.now h.is.links)) c.in-Some-false.field-0-test
