use Rattle.std.proofs.Common.{refl}
use Rattle.jm_linked.specs.declared.instruction.MemberNumber.{MemberNumber}
use Rattle.jm_values.proofs.Lists.{got_within}
use Rattle.jm_interp.proofs.ClassInitializers.{without_code, with_code}
use Rattle.jm_interp.proofs.Initialized.{class_of, initializer_done}
use Rattle.jm_interp.proofs.initializers.run_initializer.Goals as goal

pub initializer_of-requires : goal.initializer_of-requires
initializer_of-requires g c = c.requires.1.beside.linked

pub returns-in_default-clause-steps : goal.returns-in_default-clause-steps
returns-in_default-clause-steps g c =
    let d = class_of c.requires.1 in initializer_done c.requires.1 refl (c.in_default.ensures d.class_of d.at) c.finish.ensures.does

pub returns-then-is_none-clause-steps : goal.returns-then-is_none-clause-steps
returns-then-is_none-clause-steps g c =
    let d = class_of c.requires.1 in
    let n : MemberNumber = record { class = c.in-Some-number_among_all.among_all; member = c.in-Some.member } in
    without_code c.requires.1 n (c.in-Some.ensures d.class_of d.at) (c.in-Some-number_among_all.ensures d.class_of d.at)
    c.in-Some-declared_method.ensures c.if-is_none.ensures

pub call_initializer-requires : goal.call_initializer-requires
call_initializer-requires g c =
    let k = c.in-Some-code_number.ensures in (_, _, c.requires.1, got_within c.args.at.linked.now.methods _ k.method k.method_is)

pub returns-in-Some-code_number-clause-steps : goal.returns-in-Some-code_number-clause-steps
returns-in-Some-code_number-clause-steps g c =
    let d = class_of c.requires.1 in
    let n : MemberNumber = record { class = c.in-Some-number_among_all.among_all; member = c.in-Some.member } in
    with_code c.requires.1 n (c.in-Some.ensures d.class_of d.at) (c.in-Some-number_among_all.ensures d.class_of d.at) c.in-Some-code_number.ensures
    c.call_initializer.ensures.does
