-- How the run ends.
use Rattle.std.proofs.Common.{subst, sym}
use Rattle.jm_world.specs.Loading.{loaded_world}
use Rattle.jm_execute.specs.Endings.{Ends}
use Rattle.jm_execute.specs.Sources.{choice_made}
use Rattle.jm_execute.proofs.Beginnings.{allowed}
use Rattle.jm_execute.specs.KeptRecords.{IsKeptIf, IsRecord, IsRecordOf, made_whole}
use Rattle.jm_execute.specs.Verdicts.{run_verdict}
use Rattle.jm_execute.proofs.KeptRecords.{recorded_of}
use Rattle.jm_execute.proofs.Telling.{no_talk, untouched_told}
use Rattle.jm_execute.proofs.execution.execute_run.Goals as goal

pub returns-in-Ok : goal.returns-in-Ok
returns-in-Ok g c =
    let (ending, ends, leaves, kept) = c.run_as_chosen.ensures in
    let m = c.in-Ok.machine in
    let first = loaded_world m.linked.program c.args.job.now.heap in
    let from = subst (λ n. Ends c.args.job.now.show_heap (loaded_world m.linked.program n) (choice_made c.in-Ok.plan (loaded_world m.linked.program n)) ending) c.in-Ok.ensures.ready.limit_is ends in (
      ending,
      allowed _ _ _ _ _ c.in-Ok.ensures.run ending from,
      no_talk c.args.job.now.show_heap first (choice_made c.in-Ok.plan first) ending from,
      leaves,
      recorded_of (run_verdict c.args.job.now) c.args.job.now.stress m.linked.program c.args.job.now.heap (choice_made c.in-Ok.plan first) c.args.job.now.show_heap c.args.job.now.is_recorded _ (made_whole ending)
          c.in-Ok.ensures.run (subst (λ n. IsKeptIf (made_whole ending) c.args.job.now.is_recorded (IsRecord c.args.job.now.stress (loaded_world m.linked.program n) (choice_made c.in-Ok.plan (loaded_world m.linked.program n))) c.run_as_chosen.result.record_text) c.in-Ok.ensures.ready.limit_is kept),
    )

pub returns-in-Err : goal.returns-in-Err
returns-in-Err g c = let (ending, allows, silent, none, told, whole) = c.tell_obstacle.ensures.job _ c.in-Err.ensures.run in (ending, allows, silent, rw c.without_record.ensures.status (untouched_told _ _ ending _ _ _ _ c.requires.out none told), subst (λ o. IsKeptIf o c.args.job.now.is_recorded (IsRecordOf (run_verdict c.args.job.now) c.args.job.now.stress) c.without_record.result.record_text) (sym whole) c.without_record.ensures.none)
