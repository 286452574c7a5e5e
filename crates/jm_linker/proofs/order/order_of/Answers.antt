-- One class after another is placed.
use Rattle.std.proofs.Common.{◌≡◌, ◌+◌, ◌<◌, ◌^◌, List, Bool, length, true, replicate, false, set, sym, ap, subst, ◌∙◌, arith}
use Rattle.std.proofs.lemmas.List.{length_push}
use Rattle.std.proofs.lemmas.Option.{slice_get_within}
use Rattle.jm_linker.specs.Orders.{HasNext, is_next}
use Rattle.jm_linker.proofs.OrderedSoFar.{AreOrdered, none_ordered, has_next, one_more, whole_order}
use Rattle.jm_linker.proofs.PlacedLaws.{next_is}
use Rattle.jm_linker.proofs.order.order_of.Goals as goal

pub loop-place-init : goal.loop-place-init
loop-place-init c =
    let classes = c.args.classes.now in
    let none = c.in_ok-placed.ensures.items_if_clones_equal (λ y h. h) in
    let empty = c.in_ok-order.ensures.items in (
      ap length empty,
      subst (λ (placed : List Bool). AreOrdered classes placed c.in_ok-order.order.items) (sym none)
          (subst (AreOrdered classes (replicate (length classes) false)) (sym empty) (none_ordered classes)),
    )

pub next_class-class-requires-clause-next : goal.next_class-class-requires-clause-next
next_class-class-requires-clause-next c =
    let classes = c.args.classes.now in
    let count = c.loop-place.invariant.0 in
    let less = c.loop-place-test.true in
    subst (HasNext classes) (sym c.deref.ensures.value)
    (has_next classes c.loop-place.placed.items c.loop-place.order.items c.requires.ordered c.loop-place.invariant.1 (omega (arith, count, less)))

pub index_mut-requires : goal.index_mut-requires
index_mut-requires c =
    let classes = c.args.classes.now in
    let next = next_is classes c.deref.result.now c.next_class-class.result c.next_class-class.ensures in
    let within = slice_get_within classes c.next_class-class.result next.0 next.1 in
    let long = c.loop-place.invariant.1.long in
    let len = c.loop-place.placed.ok.0 in
    omega (arith, within, long, len)

pub loop-place-preserved : goal.loop-place-preserved
loop-place-preserved c =
    let classes = c.args.classes.now in
    let placed = c.loop-place.placed.items in
    let order = c.loop-place.order.items in
    let class = c.next_class-class.result in
    let next = subst (λ (bs : List Bool). is_next classes bs class ≡ true) c.deref.ensures.value c.next_class-class.ensures in (
      ap length c.in_ok-push.ensures.items ∙ length_push order class ∙ ap (λ n. n + 1) c.loop-place.invariant.0,
      subst (AreOrdered classes (set placed class true)) (sym c.in_ok-push.ensures.items) (one_more classes placed order class c.loop-place.invariant.1 next),
    )

pub returns : goal.returns
returns c =
    let classes = c.args.classes.now in
    let count = c.requires.count in
    let fits = c.ranges.count in
    let many = c.loop-place.invariant.0 in
    let all = c.loop-place-test.false in
    let most = c.loop-place.auto.place-end in
    whole_order classes c.loop-place.placed.items c.loop-place.order.items (omega (arith, count, fits)) (omega (arith, many, all, most))
    c.loop-place.invariant.1
