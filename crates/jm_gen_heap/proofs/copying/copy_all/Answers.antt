use Rattle.std.proofs.Common.{List, ◌≡◌, ◌++◌, ◌∷◌, [], ◌∙◌, ap, sym, subst}
use Rattle.jm_blocks.specs.Stores.{Blocks}
use Rattle.jm_nursery.specs.Nurseries.{AreNurseries}
use Rattle.jm_copy.specs.Condemned.{AreLanes}
use Rattle.jm_gen_heap.specs.Generations.{Generations, old_lane}
use Rattle.jm_gen_heap.proofs.Lanes.{lanes}
use Rattle.jm_gen_heap.proofs.copying.copy_all.Goals as goal

in_lanes : (all young : List Blocks) (tenured : Blocks) → all ≡ young ++ tenured ∷ [] → AreNurseries young → tenured.lane ≡ old_lane → AreLanes all
in_lanes all young tenured e r lane =
    let g : Generations = record { limit = 0; next = 0; nurseries = young; tenured = tenured; remembered = [] } in
    subst AreLanes (sym e) (lanes {g = g} (record { nurseries = r; tenured = lane }))

pub collect-requires-clause-lanes : goal.collect-requires-clause-lanes
collect-requires-clause-lanes g c =
    let all = c.push_reserved.ensures.items ∙ ap (λ stores. stores ++ c.replace.result ∷ []) c.reserve.ensures.items in
    in_lanes c.push_reserved.new.self.items c.exchange-all.result.items c.replace.result all c.exchange-all.ensures.nurseries (ap (λ s. s.lane) c.replace.ensures.value ∙ c.requires)
