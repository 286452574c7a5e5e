use Rattle.std.proofs.Common.{◌≢◌, ap, sym, ◌∙◌}
use Rattle.jm_blocks.specs.Stores.{objects_in}
use Rattle.jm_blocks.proofs.Lists.{no_blocks}
use Rattle.jm_gen_heap.specs.Generations.{old_lane}
use Rattle.jm_gen_heap.proofs.Stores.{other_lane}
use Rattle.jm_gen_heap.proofs.copying.in_old_lane.Goals as goal

pub returns-clause-same : goal.returns-clause-same
returns-clause-same c before old same p =
    let away : c.args.store.lane ≢ old_lane = λ e. c.if-lane-eq-OLD_LANE.false (c.lane.ensures.value ∙ e) in
    ap (λ s. objects_in s p) c.new.ensures ∙ no_blocks old_lane p ∙ sym (other_lane c.args.store before old away same p)
