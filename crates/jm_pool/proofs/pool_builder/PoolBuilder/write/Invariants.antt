use Rattle.std.proofs.Common.{◌≡◌, ◌++◌}
use Rattle.std.specs.List.{flat_map}
use Rattle.jm_pool.specs.Building.{entry_for, entry_bytes, pool_bytes}
use Rattle.jm_pool.specs.Numbered.{AreFit}
use Rattle.jm_pool.proofs.pool_builder.PoolBuilder.write.Given as goal

abbrev pub invariant-loop-constant : goal.invariant-loop-constant
invariant-loop-constant l = record {
  written : l.out.items ++ flat_map (λ c. entry_bytes (entry_for c)) l.constant-iterator ≡ l.fn.out.items ++ pool_bytes l.self;
  fit : AreFit l.constant-iterator;
}
