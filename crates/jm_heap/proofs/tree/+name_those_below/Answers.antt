-- An element more names what is below it.
use Rattle.std.proofs.Common.{◌+◌, ◌≤◌, length, refl, sym, subst, arith}
use Rattle.std.proofs.lemmas.Option.{slice_get_read}
use Rattle.jm_values.specs.ArraysOfArrays.{new_tree, tree_arrays}
use Rattle.jm_heap.specs.Trees.{AreFrom, dimensions_of, serial_of_first}
use Rattle.jm_heap.proofs.Naming.{has_below, is_none, last_named, not_empty, begins, ends, ends_only, next_within, first_within, next_there, names_element, element_below, can_name, then_lie, then_new, named_so}
use Rattle.jm_heap.proofs.tree.+name_those_below.Goals as goal

pub returns-then-is_empty-clause-made : goal.returns-then-is_empty-clause-made
returns-then-is_empty-clause-made t g c =
    last_named _ _ c.args.component c.in-Some.count.now c.args.counts.now c.in-Some.below.now c.in-Some.ensures.cases.0
    (is_none _ _ c.is_empty.ensures c.if-is_empty.true) c.requires.new

pub loop-index-init : goal.loop-index-init
loop-index-init t g c =
    let b = has_below c.in-Some.ensures.cases.0 (not_empty _ _ c.is_empty.ensures c.if-is_empty.false) c.requires.lie c.requires.there in
    (begins b c.requires.sound c.requires.new, c.requires.free)

pub bounds-places-next : goal.bounds-places-next
bounds-places-next t g c =
    let b = has_below c.in-Some.ensures.cases.0 (not_empty _ _ c.is_empty.ensures c.if-is_empty.false) c.requires.lie c.requires.there in
    next_within b c.loop-index.invariant.0 c.loop-index-test.true

pub name-requires-clause-there : goal.name-requires-clause-there
name-requires-clause-there t g c =
    let b = has_below c.in-Some.ensures.cases.0 (not_empty _ _ c.is_empty.ensures c.if-is_empty.false) c.requires.lie c.requires.there in
    let h = c.loop-index.invariant.0 in
    names_element b h c.loop-index-test.true
    (slice_get_read _ _ _ _ refl (first_within b h c.loop-index-test.true) c.index-places-first.is)
    (slice_get_read _ _ _ _ refl (next_within b h c.loop-index-test.true) c.index-places-next.is)

pub name-requires-clause-resident : goal.name-requires-clause-resident
name-requires-clause-resident t g c =
    let b = has_below c.in-Some.ensures.cases.0 (not_empty _ _ c.is_empty.ensures c.if-is_empty.false) c.requires.lie c.requires.there in
    let h = c.loop-index.invariant.0 in
    element_below b h c.loop-index-test.true
    (slice_get_read _ _ _ _ refl (first_within b h c.loop-index-test.true) c.index-places-first.is)
    (slice_get_read _ _ _ _ refl (next_within b h c.loop-index-test.true) c.index-places-next.is)

pub name-requires-clause-fits : goal.name-requires-clause-fits
name-requires-clause-fits t g c =
    let some = not_empty _ _ c.is_empty.ensures c.if-is_empty.false in
    let b = has_below c.in-Some.ensures.cases.0 some c.requires.lie c.requires.there in
    let h = c.loop-index.invariant.0 in
    can_name b h c.loop-index-test.true
    (slice_get_read _ _ _ _ refl (first_within b h c.loop-index-test.true) c.index-places-first.is)
    (slice_get_read _ _ _ _ refl (next_within b h c.loop-index-test.true) c.index-places-next.is)
    (omega (arith, some, c.requires.deep, c.in-Some.ensures.cases.1))

pub name-requires-clause-free : goal.name-requires-clause-free
name-requires-clause-free t g c =
    let b = has_below c.in-Some.ensures.cases.0 (not_empty _ _ c.is_empty.ensures c.if-is_empty.false) c.requires.lie c.requires.there in
    c.loop-index.invariant.1 c.args.first _ (slice_get_read _ _ _ _ refl (first_within b c.loop-index.invariant.0 c.loop-index-test.true) c.index-places-first.is)

pub name_those_below-next-requires : goal.name_those_below-next-requires
name_those_below-next-requires t g c = λ κs l.
    let some = not_empty _ _ c.is_empty.ensures c.if-is_empty.false in
    let b = has_below c.in-Some.ensures.cases.0 some c.requires.lie c.requires.there in
    let h = c.loop-index.invariant.0 in
    let outer = slice_get_read _ _ _ _ refl (first_within b h c.loop-index-test.true) c.index-places-first.is in
    let inner = slice_get_read _ _ _ _ refl (next_within b h c.loop-index-test.true) c.index-places-next.is in (
      omega (arith, c.in-Some.ensures.cases.1),
      (
        l,
        (
          c.name.ensures.set.sound,
          (
            then_lie b h c.loop-index-test.true outer inner c.name.ensures.set,
            (
              λ i p e. c.name.ensures.stays p (c.loop-index.invariant.1 i p e),
              (
                subst (λ x. AreFrom (t.H.Heap.content c.name.new.heap) (serial_of_first (t.H.Heap.content c.name.new.heap) c.args.places.now + c.loop-index.next) (new_tree (dimensions_of x c.in-Some.below.now)))
                    (sym c.below.ensures) (then_new b h c.loop-index-test.true outer inner c.name.ensures.set),
                (
                  subst (λ x. c.loop-index.next + tree_arrays (dimensions_of x c.in-Some.below.now) ≤ length c.args.places.now) (sym c.below.ensures)
                      (next_there b h c.loop-index-test.true),
                  subst (λ x. length c.in-Some.below.now ≤ x.dimensions + 1) (sym c.below.ensures) (omega (arith, some, c.requires.deep, c.in-Some.ensures.cases.1)),
                ),
              ),
            ),
          ),
        ),
      ),
    )

pub loop-index-preserved : goal.loop-index-preserved
loop-index-preserved t g c =
    let b = has_below c.in-Some.ensures.cases.0 (not_empty _ _ c.is_empty.ensures c.if-is_empty.false) c.requires.lie c.requires.there in
    let h = c.loop-index.invariant.0 in
    let outer = slice_get_read _ _ _ _ refl (first_within b h c.loop-index-test.true) c.index-places-first.is in
    let inner = slice_get_read _ _ _ _ refl (next_within b h c.loop-index-test.true) c.index-places-next.is in (
      named_so b h c.loop-index-test.true outer inner c.name.ensures.set c.below.result c.name_those_below-next.result c.below.ensures
          c.name_those_below-next.ensures.made c.name_those_below-next.ensures.only c.name_those_below-next.ensures.next,
      c.name_those_below-next.ensures.stays,
    )

pub returns-clause-made : goal.returns-clause-made
returns-clause-made t g c =
    let b = has_below c.in-Some.ensures.cases.0 (not_empty _ _ c.is_empty.ensures c.if-is_empty.false) c.requires.lie c.requires.there in
    ends b c.loop-index.invariant.0 (omega (arith, c.loop-index-test.false))

pub returns-clause-only : goal.returns-clause-only
returns-clause-only t g c =
    let b = has_below c.in-Some.ensures.cases.0 (not_empty _ _ c.is_empty.ensures c.if-is_empty.false) c.requires.lie c.requires.there in
    ends_only b c.loop-index.invariant.0
