use Rattle.std.proofs.Common.{ℕ, List, ◌-◌, ◌%◌}
use Rattle.jm_values.specs.Objects.{ObjectOf}
use Rattle.jm_heap.specs.declared.class_id.ClassId.{ClassId}
use Rattle.jm_gen_heap.specs.Generations.{Generations}
use Rattle.jm_gen_heap.specs.Invariant.{AreGenerations}
use Rattle.jm_gen_heap.specs.Several.{AreFirstPut}
use Rattle.jm_gen_heap.proofs.generations.Generations.unmake_all.Given as goal

abbrev pub invariant-loop : goal.invariant-loop
invariant-loop l = (g : Generations) (places : List ℕ) (xs : List (ObjectOf ClassId)) → AreGenerations g → AreFirstPut g places (l.nursery % 16) xs l.count l.fn.self → AreFirstPut g places (l.nursery % 16) xs (l.count - l.counter) l.self
