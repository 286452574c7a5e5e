-- By the job; for a run, a replay, a search, an assembly and a disassembly nothing is read.
use Rattle.jm_job.specs.declared.job.Job.TheVariants as jobs
use Rattle.jm_execute.specs.Verdicts.{verdict}
use Rattle.jm_execute.proofs.KeptRecords.{finished}
use Rattle.jm_execute.proofs.Telling.{done_unread, unheard}
use Rattle.jm_execute.proofs.execution.execute.Goals as goal

pub returns-in-Run : goal.returns-in-Run
unfolding verdict
returns-in-Run g c = let (e, allows, silent, leaves, kept) = c.execute_run.ensures in rw c.in-Run.is (e, allows, unheard _ _ e _ silent, leaves, kept)

pub returns-in-Replay : goal.returns-in-Replay
unfolding verdict
returns-in-Replay g c = rw c.in-Replay.is (finished _ _ _ (jobs.Replay c.in-Replay.replay) c.without_record.result _ _ _ _ _ _ _ c.without_record.ensures.status (done_unread _ _ _ _ _ _ _ _ _ _ c.execute_replay.ensures) (λ e. c.without_record.ensures.none))

pub returns-in-Explore : goal.returns-in-Explore
unfolding verdict
returns-in-Explore g c = rw c.in-Explore.is (finished _ _ _ (jobs.Explore c.in-Explore.explore) c.without_record-in-Explore.result _ _ _ _ _ _ _ c.without_record-in-Explore.ensures.status (done_unread _ _ _ _ _ _ _ _ _ _ c.execute_explore.ensures) (λ e. c.without_record-in-Explore.ensures.none))

pub returns-in-Assemble : goal.returns-in-Assemble
unfolding verdict
returns-in-Assemble g c = rw c.in-Assemble.is (finished _ _ _ (jobs.Assemble c.in-Assemble.assemble) c.without_record-in-Assemble.result _ _ _ _ _ _ _ c.without_record-in-Assemble.ensures.status (done_unread _ _ _ _ _ _ _ _ _ _ c.execute_assemble.ensures) (λ e. c.without_record-in-Assemble.ensures.none))

pub returns-in-Disassemble : goal.returns-in-Disassemble
unfolding verdict
returns-in-Disassemble g c = rw c.in-Disassemble.is (finished _ _ _ (jobs.Disassemble c.in-Disassemble.disassemble) c.without_record-in-Disassemble.result _ _ _ _ _ _ _ c.without_record-in-Disassemble.ensures.status (done_unread _ _ _ _ _ _ _ _ _ _ c.execute_disassemble.ensures) (λ e. c.without_record-in-Disassemble.ensures.none))

pub returns-in-Debug : goal.returns-in-Debug
unfolding verdict
returns-in-Debug g c = rw c.in-Debug.is (finished _ _ _ (jobs.Debug c.in-Debug.debug) c.without_record-in-Debug.result _ _ _ _ _ _ _ c.without_record-in-Debug.ensures.status c.execute_debug.ensures (λ e. c.without_record-in-Debug.ensures.none))
