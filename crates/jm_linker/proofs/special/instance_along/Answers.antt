-- The first class that declares such a method, and its method.
use Rattle.jm_linker.proofs.SpecialLaws.{along_there, instance_called, missing_called, none_called, numbered, tests}
use Rattle.jm_linker.proofs.special.instance_along.Goals as goal

pub returns-in_default : goal.returns-in_default
returns-in_default c = none_called c.args.classes.now.program.now c.args.start.now c.args.sought.now.method.now c.in_default.ensures

pub returns-in_default-method : goal.returns-in_default-method
returns-in_default-method c =
    let m = c.args.sought.now.method.now in
    missing_called c.args.classes.now.program.now c.args.start.now m c.in-Some.members.now.class.now c.in-Some.ensures
    (c.in_default-method.ensures.method m.name m.descriptor c.args.sought.now.keyed)

pub member_number-requires : goal.member_number-requires
member_number-requires c =
    let m = c.args.sought.now.method.now in
    along_there c.args.classes.now.program.now c.args.start.now (tests m.name m.descriptor) c.in-Some.members.now.class.now c.in-Some.ensures

pub returns : goal.returns
returns c =
    let m = c.args.sought.now.method.now in
    let of = c.in_ok-member_number.ensures in
    instance_called c.args.classes.now.program.now c.args.start.now m c.in-Some.members.now.class.now c.in-Some-method.found.method.now
    c.in_ok-member_number.field-0 c.in-Some.ensures (c.in-Some-method.ensures.method m.name m.descriptor c.args.sought.now.keyed)
    (record { class = of.0; method = numbered c.in-Some.members.now.class.now of.1 c.in-Some-method.ensures.number })
