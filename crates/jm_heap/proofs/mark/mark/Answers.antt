use Rattle.std.proofs.Common.{◌≡◌, ◌≤◌, ◌∙◌, ap, arith, length, subst, true}
use Rattle.jm_program.proofs.Sequences.{many_falses, none_left}
use Rattle.jm_heap.specs.Marks.{MarkedAll}
use Rattle.jm_heap.specs.Slots.{is_marked}
use Rattle.jm_heap.proofs.MarkLemmas.{Frontier, first_frontier, next_frontier, frontier_is_reach, refs_within, within_slots, none_marked}
use Rattle.jm_heap.proofs.mark.mark.Goals as goal

pub mark_places-requires : goal.mark_places-requires
mark_places-requires c p a = let w = within_slots c.args.slots.now.items p (c.requires.resident p a) in
    let many = many_falses c.len.result in omega (arith, w, many, ap length c.in_ok-marks.ensures, c.len.ensures)

pub loop-place-init : goal.loop-place-init
loop-place-init c = first_frontier c.args.slots.now.items c.args.roots.now c.in_ok-marks.marks.items c.mark_places.new.marks.items c.mark_places.new.pending.items (ap length c.in_ok-marks.ensures ∙ many_falses c.len.result ∙ c.len.ensures ∙ c.args.slots.now.ok.0) (λ q h. none_marked c.len.result q (subst (λ m. is_marked m q ≡ true) c.in_ok-marks.ensures h)) (subst (λ s. MarkedAll c.args.roots.now c.in_ok-marks.marks.items s c.mark_places.new.marks.items c.mark_places.new.pending.items) c.new-pending.ensures.items c.in_ok-mark_places.ensures)

pub mark_object-requires : goal.mark_object-requires
mark_object-requires c p a =
    let w : p ≤ length c.args.slots.now.items = refs_within c.args.slots.now.items c.in-Some.place c.requires.closed p a in
    omega (arith, w, c.loop-place.invariant.many)

pub loop-place-preserved : goal.loop-place-preserved
loop-place-preserved c =
    next_frontier c.args.slots.now.items c.args.roots.now c.loop-place.marks.items c.mark_object.new.marks.items c.pop.new.self.items c.mark_object.new.pending.items c.in-Some.place (subst (λ s. Frontier c.args.slots.now.items c.args.roots.now c.loop-place.marks.items s) c.in-Some.ensures.items c.loop-place.invariant) c.in_ok-mark_object.ensures

pub returns : goal.returns
returns c =
    let none : length c.loop-place.pending.items ≡ 0 = omega (arith, c.in_default.ensures.cases.0, c.loop-place.pending.ok.0) in
    frontier_is_reach c.args.slots.now.items c.args.roots.now c.loop-place.marks.items (subst (λ s. Frontier c.args.slots.now.items c.args.roots.now c.loop-place.marks.items s) (none_left c.loop-place.pending.items none) c.loop-place.invariant)
