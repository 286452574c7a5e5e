-- The count is no part of what is found.
use Rattle.std.proofs.Common.{get_or}
use Rattle.jm_explore.specs.Counts.{all_counted}
use Rattle.jm_explore.proofs.Counting.{counted_at, not_saturated, one_of_all}
use Rattle.jm_explore.proofs.Ends.{founds_counted}
use Rattle.jm_explore.proofs.told.count_more.Goals as goal

pub returns-clause-kept : goal.returns-clause-kept
returns-clause-kept c = founds_counted c.args.told.now c.args.index c.index-told-index.result c.saturating_add-one.result c.requires

pub returns-clause-counts : goal.returns-clause-counts
returns-clause-counts c = λ weight e at fits. counted_at weight e c.args.told.now c.args.index c.index-told-index.result c.saturating_add-one.result c.args.more c.requires at
    (not_saturated c.saturating_add-one.result (get_or c.args.told.now c.args.index c.index-told-index.result).schedules c.args.more (all_counted c.args.told.now) c.saturating_add-one.ensures (one_of_all c.args.told.now c.args.index c.index-told-index.result c.requires) fits)
