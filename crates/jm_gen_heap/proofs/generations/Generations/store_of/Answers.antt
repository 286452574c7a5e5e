use Rattle.std.proofs.Common.{◌≡◌, ◌≢◌, ◌-◌, ◌<◌, Some, sym, ap, ◌∙◌, subst, refl, length, arith}
use Rattle.std.specs.Prelude.{slice_get}
use Rattle.std.proofs.lemmas.Option.{slice_get_read}
use Rattle.jm_values.specs.Content.{serial_at}
use Rattle.jm_blocks.specs.Places.{lane_of}
use Rattle.jm_gen_heap.specs.Generations.{Generations, IsYoung, lying, old_lane}
use Rattle.jm_gen_heap.specs.Residents.{content_of}
use Rattle.jm_gen_heap.specs.Invariant.{AreGenerations}
use Rattle.jm_gen_heap.proofs.Making.{laned}
use Rattle.jm_gen_heap.proofs.Reading.{place_lies}
use Rattle.jm_gen_heap.specs.Held.{held}
use Rattle.jm_gen_heap.proofs.Holding.{in_young, young_lane, store_young, store_old}
use Rattle.jm_gen_heap.proofs.generations.Generations.store_of.Goals as goal

away : (c : goal.After-stores) → lane_of c.args.place ≢ old_lane
away c e = c.if-position-eq-OLD_LANE.false (c.of-position.ensures.lane ∙ e)

young : (c : goal.After-stores) → IsYoung c.args.place
young c =
    let i = c.self.inside in
    let g : Generations = held i.limit i.next i.young i.tenured i.pointers in
    let x = place_lies g c.self.invariant.keeps c.args.place c.requires.0 (subst (λ (y : Generations). serial_at (content_of y) c.args.place ≡ Some c.requires.0) (sym c.self.view_is) c.requires.1) in
    young_lane (laned c.self.invariant.keeps) c.args.place x.0 (away c) x.1

pub overflow_sub-result : goal.overflow_sub-result
overflow_sub-result c = let y = young c in omega (arith, y.some, c.of-position.ensures.lane)

pub bounds-stores-position : goal.bounds-stores-position
bounds-stores-position c =
    let y = young c in
    let many = c.self.invariant.keeps.nurseries.many in
    let lanes = ap length c.stores.ensures.value in
    omega (arith, y.some, y.few, c.of-position.ensures.lane, many, lanes)

pub returns-clause-there : goal.returns-clause-there
returns-clause-there c o e =
    let i = c.self.inside in
    let g : Generations = held i.limit i.next i.young i.tenured i.pointers in
    let n = c.of-position.result.lane - 1 in
    let there : lying g c.args.place ≡ Some o = ap (λ x. lying x c.args.place) c.self.view_is ∙ e in
    let apart : lane_of c.args.place ≢ old_lane = λ f. c.if-position-eq-OLD_LANE.false (c.of-position.ensures.lane ∙ f) in
    let y = young_lane (laned c.self.invariant.keeps) c.args.place o apart there in
    let many = c.self.invariant.keeps.nurseries.many in
    let lanes = ap length c.stores.ensures.value in
    let within : n < length c.stores.result.now = omega (arith, y.some, y.few, c.of-position.ensures.lane, many, lanes) in
    let at = in_young (laned c.self.invariant.keeps) c.args.place o apart there ∙ ap (λ l. Some (l - 1)) (sym c.of-position.ensures.lane) in
    let read = slice_get_read c.stores.result.now (length c.stores.result.now) n c.index-stores-position.result refl within c.index-stores-position.is in
    store_young (laned c.self.invariant.keeps) c.args.place n c.index-stores-position.result o at (ap (λ xs. slice_get xs n) (sym c.stores.ensures.value) ∙ read) there

pub returns-then-position-eq-OLD_LANE-clause-there : goal.returns-then-position-eq-OLD_LANE-clause-there
returns-then-position-eq-OLD_LANE-clause-there c o e =
    let i = c.self.inside in
    let g : Generations = held i.limit i.next i.young i.tenured i.pointers in
    store_old (laned c.self.invariant.keeps) c.args.place o (sym c.of-position.ensures.lane ∙ c.if-position-eq-OLD_LANE.true) (ap (λ x. lying x c.args.place) c.self.view_is ∙ e)

pub returns-then-position-eq-OLD_LANE-clause-keeps : goal.returns-then-position-eq-OLD_LANE-clause-keeps
returns-then-position-eq-OLD_LANE-clause-keeps c = subst AreGenerations c.self.view_is c.self.invariant.keeps

pub returns-clause-keeps : goal.returns-clause-keeps
returns-clause-keeps c = subst AreGenerations c.self.view_is c.self.invariant.keeps
