use Rattle.std.proofs.Common.{ap, ◌∙◌}
use Rattle.jm_frames.specs.FrameView.{FrameView}
use Rattle.jm_interp.proofs.Entered.{as_end}
use Rattle.jm_interp.proofs.Entries.{has_locals, its_method, enters_held, enters_not, entered_in, begins_so}
use Rattle.jm_interp.proofs.OnThread.{within, read}
use Rattle.jm_interp.proofs.thread_entry.enter_code.Goals as goal

pub run_frame-requires : goal.run_frame-requires
run_frame-requires g c = has_locals c.requires c.in-Some.ensures

pub enter_if-requires-clause-held : goal.enter_if-requires-clause-held
enter_if-requires-clause-held g c =
    let its = c.in-Ok.ensures _ (its_method c.requires c.in-Some.ensures) in
    enters_held c.requires c.in-Some.ensures (c.monitor_of-monitor.ensures _ c.in-Some.ensures) (c.monitor.ensures ∙ ap (λ (f : FrameView). f.monitor) its)

pub index_mut-requires : goal.index_mut-requires
index_mut-requires g c =
    let its = c.in-Ok.ensures _ (its_method c.requires c.in-Some.ensures) in
    within (entered_in c.requires c.in-Some.ensures (c.monitor_of-monitor.ensures _ c.in-Some.ensures)
    (c.monitor.ensures ∙ ap (λ (f : FrameView). f.monitor) its) c.enter_if.ensures.rest (as_end c.in-Ok-Done.field-0-is c.in-Ok-Done.ensures.does))

pub replace_frame-requires : goal.replace_frame-requires
replace_frame-requires g c =
    let its = c.in-Ok.ensures _ (its_method c.requires c.in-Some.ensures) in
    let k = entered_in c.requires c.in-Some.ensures (c.monitor_of-monitor.ensures _ c.in-Some.ensures)
    (c.monitor.ensures ∙ ap (λ (f : FrameView). f.monitor) its) c.enter_if.ensures.rest (as_end c.in-Ok-Done.field-0-is c.in-Ok-Done.ensures.does) in
    (_, _, _, read k c.index_mut.ensures.value)

pub returns-in-Ok-Done-clause-steps : goal.returns-in-Ok-Done-clause-steps
returns-in-Ok-Done-clause-steps g c =
    let p = c.in-Some.ensures in
    let its = c.in-Ok.ensures _ (its_method c.requires p) in
    let m = c.monitor_of-monitor.ensures _ p in
    let same = c.monitor.ensures ∙ ap (λ (f : FrameView). f.monitor) its in
    let done = as_end c.in-Ok-Done.field-0-is c.in-Ok-Done.ensures.does in
    let k = entered_in c.requires p m same c.enter_if.ensures.rest done in
    begins_so c.requires p m same c.enter_if.ensures.rest done its (c.replace_frame.ensures _ _ _ (read k c.index_mut.ensures.value))

pub returns-in-Ok-Blocked-clause-steps : goal.returns-in-Ok-Blocked-clause-steps
returns-in-Ok-Blocked-clause-steps g c =
    let its = c.in-Ok.ensures _ (its_method c.requires c.in-Some.ensures) in
    enters_not c.requires c.in-Some.ensures (c.monitor_of-monitor.ensures _ c.in-Some.ensures)
    (c.monitor.ensures ∙ ap (λ (f : FrameView). f.monitor) its) c.enter_if.ensures.rest tt (as_end c.in-Ok-Blocked.field-0-is c.in-Ok-Blocked.ensures.does)

pub returns-in-Err-clause-steps : goal.returns-in-Err-clause-steps
returns-in-Err-clause-steps g c =
    let its = c.in-Ok.ensures _ (its_method c.requires c.in-Some.ensures) in
    enters_not c.requires c.in-Some.ensures (c.monitor_of-monitor.ensures _ c.in-Some.ensures)
    (c.monitor.ensures ∙ ap (λ (f : FrameView). f.monitor) its) c.enter_if.ensures.rest tt c.in-Err.ensures.does
