use Rattle.jm_world.specs.Stepping.{step_thread}
use Rattle.jm_machine.proofs.Events.{running_there, done, blocked, refused, stopped}
use Rattle.jm_machine.proofs.event.step_running.Goals as goal

pub step_thread-requires-clause-there : goal.step_thread-requires-clause-there
step_thread-requires-clause-there g c = running_there c.args.state.now.threads.items c.args.number c.requires.running

pub returns-in-Ok-Done-clause-event : goal.returns-in-Ok-Done-clause-event
returns-in-Ok-Done-clause-event g c = λ w t m e. done _ w (step_thread w c.args.number t) _ c.in-Ok-Done.field-0-is (c.in-Ok-Done.ensures.next w t m e)

pub returns-in-Ok-Blocked-clause-event : goal.returns-in-Ok-Blocked-clause-event
returns-in-Ok-Blocked-clause-event g c = λ w t m e. blocked _ w (step_thread w c.args.number t) _ c.in-Ok-Blocked.field-0-is (c.in-Ok-Blocked.ensures.next w t m e)

pub returns-in-Err-Stopped-clause-event : goal.returns-in-Err-Stopped-clause-event
returns-in-Err-Stopped-clause-event g c = λ w t m e.
    let s = c.step_thread.new.state in
    stopped _ _ _ w (step_thread w c.args.number t) _ _ c.in-Err-Stopped.field-0-is (c.in-Err-Stopped.ensures.next w t m e)

pub returns-in-Err-OutOfMemory-clause-event : goal.returns-in-Err-OutOfMemory-clause-event
returns-in-Err-OutOfMemory-clause-event g c = λ w t m e. refused _ w (step_thread w c.args.number t) _ c.in-Err-OutOfMemory.field-0-is (c.in-Err-OutOfMemory.ensures.next w t m e)

pub returns-in-Ok-Done-clause-nursery : goal.returns-in-Ok-Done-clause-nursery
returns-in-Ok-Done-clause-nursery g c = c.step_thread.ensures.nursery

pub returns-in-Ok-Blocked-clause-nursery : goal.returns-in-Ok-Blocked-clause-nursery
returns-in-Ok-Blocked-clause-nursery g c = c.step_thread.ensures.nursery

pub returns-in-Err-Stopped-clause-nursery : goal.returns-in-Err-Stopped-clause-nursery
returns-in-Err-Stopped-clause-nursery g c = c.step_thread.ensures.nursery

pub returns-in-Err-OutOfMemory-clause-nursery : goal.returns-in-Err-OutOfMemory-clause-nursery
returns-in-Err-OutOfMemory-clause-nursery g c = c.step_thread.ensures.nursery
