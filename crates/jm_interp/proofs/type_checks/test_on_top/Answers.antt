use Rattle.std.proofs.Common.{ap, refl, ◌∙◌}
use Rattle.std.specs.Prelude.{Ok, pos}
use Rattle.std.proofs.lemmas.Result.{err_from_is_err_and}
use Rattle.jm_values.specs.declared.value.Value.TheVariants.{Int}
use Rattle.jm_world.specs.Types.{type_of_ref}
use Rattle.jm_interp.proofs.Objects.{lies, told}
use Rattle.jm_interp.proofs.OnTop.{found_reference}
use Rattle.jm_interp.proofs.TypeRows.{room_of_reference, its, test_refused, test_null, test_holds, test_fails}
use Rattle.jm_interp.proofs.type_checks.test_on_top.Goals as goal

pub returns-in_err-object : goal.returns-in_err-object
returns-in_err-object g c =
    let left = err_from_is_err_and c.from_residual.result c.from_residual.ensures.1 in
    rw (left.1, left.2) (test_refused c.requires (found_reference c.requires.method 0 c.index.ensures c.in_err-object.ensures.value))

pub returns-in_default : goal.returns-in_default
returns-in_default g c =
    let e = found_reference c.requires.method 0 c.index.ensures c.in_ok-object.ensures.value ∙ ap Ok c.in_default.is in
    test_null c.requires e (room_of_reference c.index.ensures c.in_ok-object.ensures.room c.in_ok-object.ensures.value (Int (pos 0)) refl)

pub class_of-requires : goal.class_of-requires
class_of-requires g c =
    let e = found_reference c.requires.method 0 c.index.ensures c.in_ok-object.ensures.value ∙ ap Ok c.in-Some.is in
    lies c.requires.method.on (its c.requires e)

pub returns-in-Some-true : goal.returns-in-Some-true
returns-in-Some-true g c =
    let h = c.requires in
    let e = found_reference h.method 0 c.index.ensures c.in_ok-object.ensures.value ∙ ap Ok c.in-Some.is in
    let is = c.in-Some-true.ensures (type_of_ref h.is.0) h.is.2 in
    test_holds h e (told h.method.on (its h e) c.class_of.ensures) is c.in-Some-true.field-0-test
    (room_of_reference c.index.ensures c.in_ok-object.ensures.room c.in_ok-object.ensures.value (Int (pos 1)) refl)

pub returns-in-Some-false : goal.returns-in-Some-false
returns-in-Some-false g c =
    let h = c.requires in
    let e = found_reference h.method 0 c.index.ensures c.in_ok-object.ensures.value ∙ ap Ok c.in-Some.is in
    let is = c.in-Some-false.ensures (type_of_ref h.is.0) h.is.2 in
    test_fails h e (told h.method.on (its h e) c.class_of.ensures) is c.in-Some-false.field-0-test
    (room_of_reference c.index.ensures c.in_ok-object.ensures.room c.in_ok-object.ensures.value (Int (pos 0)) refl)
