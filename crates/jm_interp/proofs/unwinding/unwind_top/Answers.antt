use Rattle.std.proofs.Common.{sym, ◌∙◌}
use Rattle.jm_interp.proofs.Objects.{lies}
use Rattle.jm_interp.proofs.OnThread.{within, read, part_here}
use Rattle.jm_interp.proofs.Unwound.{thrown, leaves_method, in_throwing, goes_to_handler, class_in, fails}
use Rattle.jm_interp.proofs.unwinding.unwind_top.Goals as goal

pub class_of-thrown-requires : goal.class_of-thrown-requires
class_of-thrown-requires g c = lies c.requires.1 (thrown c.requires.1)

pub index-requires : goal.index-requires
index-requires g c = within c.requires.1

pub fail_by-requires-clause-class : goal.fail_by-requires-clause-class
fail_by-requires-clause-class g c =
    class_in c.requires.1 (sym (c.class_on_top.ensures _ _ (read c.requires.1 c.index.ensures)) ∙ c.in-Some-class_on_top.is)

pub returns-in-Some-class_on_top-clause-steps : goal.returns-in-Some-class_on_top-clause-steps
returns-in-Some-class_on_top-clause-steps g c =
    let on = sym (c.class_on_top.ensures _ _ (read c.requires.1 c.index.ensures)) ∙ c.in-Some-class_on_top.is in
    fails c.requires.1 on c.class_of-thrown.ensures c.in-Some.ensures c.fail_by.ensures.does

pub index-requires-2 : goal.index-requires-2
index-requires-2 g c = within c.requires.1

pub target_on_top-requires-clause-methods : goal.target_on_top-requires-clause-methods
target_on_top-requires-clause-methods g c = (_, _, read c.requires.1 c.index-2.ensures, (part_here c.requires.1).runs.frames)

pub handle-requires : goal.handle-requires
handle-requires g c =
    in_throwing c.requires.1 c.class_of-thrown.ensures (c.target_on_top.ensures _ _ (read c.requires.1 c.index-2.ensures)) c.in-Some-target_on_top.is

pub returns-in-Some-target_on_top-clause-steps : goal.returns-in-Some-target_on_top-clause-steps
returns-in-Some-target_on_top-clause-steps g c =
    goes_to_handler c.requires.1 c.class_of-thrown.ensures (c.target_on_top.ensures _ _ (read c.requires.1 c.index-2.ensures)) c.in-Some-target_on_top.is
    c.handle.ensures.does

pub returns-in-None-clause-steps : goal.returns-in-None-clause-steps
returns-in-None-clause-steps g c =
    let none = sym (c.class_on_top.ensures _ _ (read c.requires.1 c.index.ensures)) ∙ c.in_default-class_on_top.is in
    leaves_method c.requires.1 none c.class_of-thrown.ensures c.in-Some.ensures
    (c.target_on_top.ensures _ _ (read c.requires.1 c.index-2.ensures)) c.in-None.is c.drop_method.ensures.does
