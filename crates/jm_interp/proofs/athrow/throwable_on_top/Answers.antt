use Rattle.std.proofs.Common.{map}
use Rattle.std.proofs.lemmas.Result.{err_from_is_err_and}
use Rattle.jm_program.specs.declared.class.ClassParts.{ClassParts}
use Rattle.jm_world.specs.Classes.{throwable_class}
use Rattle.jm_interp.proofs.Objects.{lies, told}
use Rattle.jm_interp.proofs.OnTop.{found_object}
use Rattle.jm_interp.proofs.ThrowRow.{no_object, its, throws_it, no_throwable}
use Rattle.jm_interp.proofs.athrow.throwable_on_top.Goals as goal

pub returns-in_err-place : goal.returns-in_err-place
returns-in_err-place g c =
    let left = err_from_is_err_and c.from_residual.result c.from_residual.ensures.1 in
    rw (left.1, left.2) (no_object c.requires (found_object c.requires.method 0 c.index.ensures c.in_err-place.ensures.value))

pub class_of-thrown-requires : goal.class_of-thrown-requires
class_of-thrown-requires g c =
    let h = c.requires in lies h.method.on (its h (found_object h.method 0 c.index.ensures c.in_ok-place.ensures.value))

pub returns-then-not-is_of : goal.returns-then-not-is_of
returns-then-not-is_of g c =
    let h = c.requires in
    let e = found_object h.method 0 c.index.ensures c.in_ok-place.ensures.value in
    no_throwable h e (told h.method.on (its h e) c.class_of-thrown.ensures)
    (c.is_of.ensures throwable_class (c.number.ensures.named (map (λ (d : ClassParts). d.name) c.args.at.linked.now.program))) c.if-not-is_of.true

pub returns : goal.returns
returns g c =
    let h = c.requires in
    let e = found_object h.method 0 c.index.ensures c.in_ok-place.ensures.value in
    throws_it h e (told h.method.on (its h e) c.class_of-thrown.ensures)
    (c.is_of.ensures throwable_class (c.number.ensures.named (map (λ (d : ClassParts). d.name) c.args.at.linked.now.program))) c.if-not-is_of.false
