use Rattle.jm_interp.proofs.Entered.{as_end}
use Rattle.jm_interp.proofs.MonitorRows.{no_object, top_held, enters, enter_row, then_in, enters_and_goes, enters_not}
use Rattle.jm_interp.proofs.OnTop.{found_object}
use Rattle.jm_interp.proofs.monitors.enter_top.Goals as goal

pub refuse-requires-clause-refused : goal.refuse-requires-clause-refused
refuse-requires-clause-refused g c =
    let h = c.requires in
    no_object h.method (enters h) (enter_row h) (found_object h.method 0 c.index.ensures c.in-Err.ensures.value)

pub enter-requires-clause-held : goal.enter-requires-clause-held
enter-requires-clause-held g c = let h = c.requires in top_held h.method (found_object h.method 0 c.index.ensures c.in-Ok.ensures.value)

pub go_on_without-requires : goal.go_on_without-requires
go_on_without-requires g c =
    let h = c.requires in
    then_in h c.enter.ensures.rest (found_object h.method 0 c.index.ensures c.in-Ok.ensures.value) (as_end c.in-Ok-Done.field-0-is c.in-Ok-Done.ensures.does)

pub returns-in-Ok-Done-clause-steps : goal.returns-in-Ok-Done-clause-steps
returns-in-Ok-Done-clause-steps g c =
    let h = c.requires in
    enters_and_goes h c.enter.ensures.rest (found_object h.method 0 c.index.ensures c.in-Ok.ensures.value)
    (as_end c.in-Ok-Done.field-0-is c.in-Ok-Done.ensures.does) c.go_on_without.ensures.does

pub returns-in-Ok-Blocked-clause-steps : goal.returns-in-Ok-Blocked-clause-steps
returns-in-Ok-Blocked-clause-steps g c =
    let h = c.requires in
    enters_not h c.enter.ensures.rest (found_object h.method 0 c.index.ensures c.in-Ok.ensures.value) tt
    (as_end c.in-Ok-Blocked.field-0-is c.in-Ok-Blocked.ensures.does)

pub returns-in-Err-enter-clause-steps : goal.returns-in-Err-enter-clause-steps
returns-in-Err-enter-clause-steps g c =
    let h = c.requires in
    enters_not h c.enter.ensures.rest (found_object h.method 0 c.index.ensures c.in-Ok.ensures.value) tt c.in-Err-enter.ensures.does
