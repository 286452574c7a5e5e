use Rattle.jm_interp.proofs.Initialized.{class_of, class_within, own_within, none_first, done_first, own_first}
use Rattle.std.proofs.Common.{refl}
use Rattle.jm_interp.proofs.initialization.superclass_first.Goals as goal

pub returns-in_default-own_superclass-clause-steps : goal.returns-in_default-own_superclass-clause-steps
returns-in_default-own_superclass-clause-steps g c =
    let d = class_of c.requires.1 in
    none_first c.requires.1 refl (c.in_default-own_superclass.ensures d.class_of (c.in-Some.ensures d.class_of d.at)) c.to_initializer.ensures.does

pub get-requires : goal.get-requires
get-requires g c =
    let d = class_of c.requires.1 in
    let own = own_within c.requires.1 (c.in-Some-own_superclass.ensures d.class_of (c.in-Some.ensures d.class_of d.at)) in
    class_within c.requires.1 c.in-Some-own_superclass.above own

pub returns-in-Done-clause-steps : goal.returns-in-Done-clause-steps
returns-in-Done-clause-steps g c =
    let d = class_of c.requires.1 in
    let own = c.in-Some-own_superclass.ensures d.class_of (c.in-Some.ensures d.class_of d.at) in
    done_first c.requires.1 c.in-Some-own_superclass.above refl own c.get.ensures c.in-Done.is c.to_initializer-in-Done.ensures.does

pub begin_superclass-requires : goal.begin_superclass-requires
begin_superclass-requires g c =
    let d = class_of c.requires.1 in
    (_, c.requires.0, c.requires.1, own_within c.requires.1 (c.in-Some-own_superclass.ensures d.class_of (c.in-Some.ensures d.class_of d.at)))

pub returns-in_default-get-clause-steps : goal.returns-in_default-get-clause-steps
returns-in_default-get-clause-steps g c =
    let d = class_of c.requires.1 in
    own_first c.requires.1 c.in-Some-own_superclass.above refl (c.in-Some-own_superclass.ensures d.class_of (c.in-Some.ensures d.class_of d.at)) c.get.ensures
    c.in_default-get.not-Done c.begin_superclass.ensures.does
