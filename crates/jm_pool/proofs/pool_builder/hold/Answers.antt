use Rattle.std.proofs.Common.{rules, ◌∙◌}
use Rattle.jm_pool.proofs.NumberedPools.{inserted_new}
use Rattle.jm_pool.proofs.pool_builder.hold.Goals as goal

pub returns-clause-ok : goal.returns-clause-ok
returns-clause-ok c = c.in_ok-insert.ensures.entries ∙ inserted_new _ (λ a b. search rules) c.args.indexes.now c.args.constant c.args.index c.requires
