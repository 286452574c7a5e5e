-- One event more was made.
use Rattle.std.proofs.Common.{◌∙◌, ap, get_or, take, subst, sym}
use Rattle.std.proofs.lemmas.List.{take_more}
use Rattle.jm_world.specs.Loading.{loaded_world}
use Rattle.jm_machine.specs.View.{MatchesWorld}
use Rattle.jm_explore.specs.Switches.{world_after}
use Rattle.jm_explore.proofs.Paths.{world_more}
use Rattle.jm_explore.proofs.search.run_again.Goals as goal

pub loop-thread-preserved : goal.loop-thread-preserved
loop-thread-preserved g c =
    let w = loaded_world c.args.machine.now.linked.program (g.E.EmptyHeaps.limit c.args.heaps.now) in
    let i = c.loop-thread.thread-index in
    let made = take i c.args.path.now in
    let t = get_or c.args.path.now i 0 in
    record {
      matches = subst (MatchesWorld c.step.new.self) (sym (world_more w made t) ∙ ap (world_after w) (sym (take_more c.args.path.now i 0 c.loop-thread-test.true))) (c.in_ok-step.ensures.next (world_after w made) c.loop-thread.invariant.matches).0;
      linked = c.step.ensures.linked ∙ c.loop-thread.invariant.linked;
    }
