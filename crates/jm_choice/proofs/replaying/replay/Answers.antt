-- One run more agrees, or differs, or is refused.
use Rattle.std.proofs.Common.{Ok, None, refl, sym, ap, subst, ◌∙◌, ◌++◌, ◌∷◌, [], ◌+◌, take, drop}
use Rattle.jm_machine.specs.View.{MatchesWorld}
use Rattle.jm_schedule.specs.Records.{entries_of, entries_of_run}
use Rattle.jm_schedule.proofs.RecordLemmas.{all_runs, no_entries, runs_more, runs_split}
use Rattle.jm_choice.specs.Replays.{Agrees, Replays, world_behind}
use Rattle.jm_choice.proofs.Entries.{differs_in, replays_then, stops_in}
use Rattle.jm_choice.proofs.replaying.replay.Goals as goal

pub loop-run-init : goal.loop-run-init
loop-run-init g c = record {
  agrees = λ w m. subst (Agrees w) (sym no_entries) refl;
  matches = λ w m. subst (λ es. MatchesWorld c.args.machine.now (world_behind w es)) (sym no_entries) m;
}

pub returns-in-Ok-Some : goal.returns-in-Ok-Some
returns-in-Ok-Some g c = λ w m.
    let i = c.loop-run.invariant in
    let whole = sym c.runs.ensures ∙ runs_split c.runs.result.0.now c.runs.result.1 c.loop-run.run-index c.run-item.result c.loop-run-test.true ∙ ap (λ x. (entries_of (take c.loop-run.run-index c.runs.result.0.now) ++ entries_of_run x) ++ entries_of (drop (c.loop-run.run-index + 1) c.runs.result.0.now ++ c.runs.result.1 ∷ [])) (sym c.run-item.is) in
    differs_in w _ (entries_of_run c.run-item.result) _ _ _ c.replay_run.new.machine whole (i.agrees w m)
    (subst (λ o. Replays (world_behind w (entries_of (take c.loop-run.run-index c.runs.result.0.now))) (entries_of_run c.run-item.result) c.replay_run.new.machine (Ok o)) c.in-Ok-Some.field-0-is (c.in-Ok-Some.ensures _ (i.matches w m)))

pub returns-in-Err : goal.returns-in-Err
returns-in-Err g c = λ w m.
    let i = c.loop-run.invariant in
    let whole = sym c.runs.ensures ∙ runs_split c.runs.result.0.now c.runs.result.1 c.loop-run.run-index c.run-item.result c.loop-run-test.true ∙ ap (λ x. (entries_of (take c.loop-run.run-index c.runs.result.0.now) ++ entries_of_run x) ++ entries_of (drop (c.loop-run.run-index + 1) c.runs.result.0.now ++ c.runs.result.1 ∷ [])) (sym c.run-item.is) in
    stops_in w _ (entries_of_run c.run-item.result) _ _ c.in-Err.fault c.replay_run.new.machine whole (i.agrees w m) (c.in-Err.ensures _ (i.matches w m))

pub loop-run-preserved : goal.loop-run-preserved
loop-run-preserved g c =
    let i = c.loop-run.invariant in
    let more = runs_more c.runs.result.0.now c.loop-run.run-index c.run-item.result c.loop-run-test.true ∙ ap (λ x. entries_of (take c.loop-run.run-index c.runs.result.0.now) ++ entries_of_run x) (sym c.run-item.is) in
    let so_far = entries_of (take c.loop-run.run-index c.runs.result.0.now) in
    let here = entries_of_run c.run-item.result in
    record {
      agrees = λ w m. subst (Agrees w) (sym more) (replays_then w so_far here c.replay_run.new.machine (Ok None) (i.agrees w m) (subst (λ o. Replays (world_behind w so_far) here c.replay_run.new.machine (Ok o)) c.in-Ok-None.field-0-is (c.in-Ok-None.ensures _ (i.matches w m)))).0;
      matches = λ w m. subst (λ es. MatchesWorld c.replay_run.new.machine (world_behind w es)) (sym more) (replays_then w so_far here c.replay_run.new.machine (Ok None) (i.agrees w m) (subst (λ o. Replays (world_behind w so_far) here c.replay_run.new.machine (Ok o)) c.in-Ok-None.field-0-is (c.in-Ok-None.ensures _ (i.matches w m)))).1;
    }

pub returns : goal.returns
returns g c = λ w m.
    let i = c.loop-run.invariant in
    let whole = sym c.runs.ensures ∙ all_runs c.runs.result.0.now c.loop-run.run-index c.runs.result.1 c.loop-run-test.false in
    subst (λ es. Replays w es c.replay_run-2.new.machine c.replay_run-2.result) (sym whole) (replays_then w (entries_of (take c.loop-run.run-index c.runs.result.0.now)) (entries_of_run c.runs.result.1) c.replay_run-2.new.machine c.replay_run-2.result (i.agrees w m) (c.replay_run-2.ensures _ (i.matches w m)))
