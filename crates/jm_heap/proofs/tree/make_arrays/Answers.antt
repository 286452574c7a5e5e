-- New arrays were made, and then named.
use Rattle.std.proofs.Common.{refl, arith}
use Rattle.jm_heap.proofs.MadeArrays.{first_is, none_is_less, shapes_are, made_new, refused_new, refused_so, too_many, some_places, lie_there, new_there, enough, then_as_before, then_made, named_lie}
use Rattle.jm_heap.proofs.NewPlaces.{none_new_same, new_all_there, none_made_of_all}
use Rattle.jm_heap.proofs.tree.make_arrays.Goals as goal

pub returns-then-is_none-clause-nursery : goal.returns-then-is_none-clause-nursery
returns-then-is_none-clause-nursery g c = none_new_same _ _ _ refl

pub returns-then-is_none-clause-err : goal.returns-then-is_none-clause-err
returns-then-is_none-clause-err g c =
    too_many c.args.component c.args.counts.now _ _ c.limit.result c.limit.ensures (none_is_less _ _ _ c.tree_cells.ensures c.if-is_none.ensures)

pub returns-in_err-push_shapes-clause-nursery : goal.returns-in_err-push_shapes-clause-nursery
returns-in_err-push_shapes-clause-nursery g c = none_new_same _ _ _ refl

pub name_those_below-requires-clause-lie : goal.name_those_below-requires-clause-lie
name_those_below-requires-clause-lie g c =
    let new = shapes_are _ _ _ _ c.as_slice.ensures.value c.new-shapes.ensures.items c.in_ok-push_shapes.ensures in
    lie_there c.args.component c.args.counts.now (made_new _ _ _ _ c.as_slice-places.ensures.value new c.in-Ok.ensures.ok) c.requires.some

pub name_those_below-requires-clause-new : goal.name_those_below-requires-clause-new
name_those_below-requires-clause-new g c =
    let new = shapes_are _ _ _ _ c.as_slice.ensures.value c.new-shapes.ensures.items c.in_ok-push_shapes.ensures in
    new_there c.args.component c.args.counts.now (made_new _ _ _ _ c.as_slice-places.ensures.value new c.in-Ok.ensures.ok) c.requires.some

pub name_those_below-requires-clause-there : goal.name_those_below-requires-clause-there
name_those_below-requires-clause-there g c =
    let new = shapes_are _ _ _ _ c.as_slice.ensures.value c.new-shapes.ensures.items c.in_ok-push_shapes.ensures in
    enough c.args.component c.args.counts.now (made_new _ _ _ _ c.as_slice-places.ensures.value new c.in-Ok.ensures.ok) c.requires.some

pub bounds-places-0 : goal.bounds-places-0
bounds-places-0 g c =
    let new = shapes_are _ _ _ _ c.as_slice.ensures.value c.new-shapes.ensures.items c.in_ok-push_shapes.ensures in
    some_places c.args.component c.args.counts.now (made_new _ _ _ _ c.as_slice-places.ensures.value new c.in-Ok.ensures.ok) c.requires.some

pub returns-in-Ok-clause-ok : goal.returns-in-Ok-clause-ok
returns-in-Ok-clause-ok g c =
    let new = shapes_are _ _ _ _ c.as_slice.ensures.value c.new-shapes.ensures.items c.in_ok-push_shapes.ensures in
    let made = made_new _ _ _ _ c.as_slice-places.ensures.value new c.in-Ok.ensures.ok in
    then_made c.args.component c.args.counts.now made c.requires.some c.name_those_below.ensures.made c.name_those_below.ensures.only _
    (first_is _ _ _ c.index-places-0.is (some_places c.args.component c.args.counts.now made c.requires.some)) c.requires.sound

pub returns-in-Ok-clause-nursery : goal.returns-in-Ok-clause-nursery
returns-in-Ok-clause-nursery g c =
    let new = shapes_are _ _ _ _ c.as_slice.ensures.value c.new-shapes.ensures.items c.in_ok-push_shapes.ensures in
    let made = c.in-Ok.ensures.ok in
    named_lie c.args.component c.args.counts.now (made_new _ _ _ _ c.as_slice-places.ensures.value new made) c.requires.some
    c.name_those_below.ensures.made c.name_those_below.ensures.only _
    (new_all_there _ _ _ made.kept.sound c.allocate_all.ensures.as_before _ (omega (arith, made.next, made.many)) made.placed c.in-Ok.ensures.nursery)

pub returns-in-Ok-clause-as_before : goal.returns-in-Ok-clause-as_before
returns-in-Ok-clause-as_before g c =
    let new = shapes_are _ _ _ _ c.as_slice.ensures.value c.new-shapes.ensures.items c.in_ok-push_shapes.ensures in
    then_as_before c.args.component c.args.counts.now (made_new _ _ _ _ c.as_slice-places.ensures.value new c.in-Ok.ensures.ok) c.requires.some
    c.name_those_below.ensures.made c.name_those_below.ensures.only c.allocate_all.ensures.as_before

pub returns-clause-nursery : goal.returns-clause-nursery
returns-clause-nursery g c =
    none_made_of_all _ _ _ c.in-Err.ensures.kept.sound c.allocate_all.ensures.as_before c.in-Err.ensures.next

pub returns-clause-err : goal.returns-clause-err
returns-clause-err g c =
    let new = shapes_are _ _ _ _ c.as_slice.ensures.value c.new-shapes.ensures.items c.in_ok-push_shapes.ensures in
    refused_so c.args.component c.args.counts.now _ _ c.in-Err.fault (refused_new _ _ _ _ c.in-Err.fault new c.in-Err.ensures.err)
