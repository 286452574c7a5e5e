use Rattle.std.proofs.Common.{List, sym, ap, ◌∙◌}
use Rattle.jm_class_format.specs.declared.constant_pool.Entry.{Entry}
use Rattle.jm_pool.specs.Building.{index_among}
use Rattle.jm_pool.proofs.NumberedPools.{found_index}
use Rattle.jm_pool.proofs.pool_builder.PoolBuilder.find.Goals as goal

pub returns : goal.returns
returns c =
    c.index_held.ensures
    ∙ sym (found_index c.args.constant.now 1 c.self.inside.indexes.entries c.self.invariant.numbered)
    ∙ ap (λ (es : List Entry). index_among 1 es c.args.constant.now) c.self.view_is
