-- The laws, from what was proved of each step.
use Rattle.jm_gen_heap.specs.Generations.{Generations}
use Rattle.jm_gen_heap.specs.Invariant.{AreGenerations}
use Rattle.jm_gen_heap.specs.Laws.{PutIsMade, WrittenIsSet, FullLeavesReached, MinorLeavesOld}
use Rattle.jm_gen_heap.proofs.Making.{put_made, put_keeps}
use Rattle.jm_gen_heap.proofs.Setting.{written_set, written_keeps}
use Rattle.jm_gen_heap.proofs.CollectingAll.{collected_all}
use Rattle.jm_gen_heap.proofs.CollectingYoung.{collected_young}

pub put_is_made : (g h : Generations) → AreGenerations g → PutIsMade g h
put_is_made g h v p o w n = (put_made v w n, put_keeps v w n)

pub written_is_set : (g h : Generations) → AreGenerations g → WrittenIsSet g h
written_is_set g h v p i x w r = (written_set v w r, written_keeps v w r)

pub full_leaves_reached : (g h : Generations) → AreGenerations g → FullLeavesReached g h
full_leaves_reached g h v roots moved r c = collected_all v c r

pub minor_leaves_old : (g h : Generations) → AreGenerations g → MinorLeavesOld g h
minor_leaves_old g h v roots moved r c = collected_young v c r
