use Rattle.std.proofs.Common.{◌≡◌, ◌+◌, ◌≤◌, ◌%◌, ◌∙◌, ap, sym, subst, length, map, arith}
use Rattle.std.specs.Prelude.{slice_set}
use Rattle.std.proofs.lemmas.List.{length-map}
use Rattle.jm_values.specs.Objects.{default_of}
use Rattle.jm_heap.specs.Cells.{class_size}
use Rattle.jm_heap.proofs.SizeLaws.{at_least_two}
use Rattle.jm_blocks.specs.Objects.{Object, object_of}
use Rattle.jm_blocks.specs.Cells.{object_cells}
use Rattle.jm_blocks.specs.Stores.{next_place}
use Rattle.jm_nursery.specs.Nurseries.{Young, IsMade, young_cells}
use Rattle.jm_nursery.proofs.Making.{made, young_more}
use Rattle.jm_nursery.proofs.nurseries.Nurseries.make_defaults.Goals as goal

pub reserve-requires : goal.reserve-requires
reserve-requires c = let two = at_least_two c.args.header.class (length c.args.fields.now) in omega (arith, two, c.size-size.ensures)

pub invariant_of-self-2 : goal.invariant_of-self-2
invariant_of-self-2 c =
    let o : Object = object_of c.args.header (map default_of c.args.fields.now) in
    let size : c.size-size.result ≡ object_cells o = c.size-size.ensures ∙ sym (ap (class_size c.args.header.class) (length-map c.args.fields.now default_of)) in
    let fits = subst (λ y. young_cells y.lanes + object_cells o ≤ y.limit) (sym c.self.view_is) c.requires.room in
    young_more c.self.inside.limit c.self.inside.cells c.size-size.result c.self.inside.stores.items (c.args.worker % 16) c.index_mut-store.result.now c.fill_defaults.new.self o c.self.invariant (omega arith) c.index_mut-store.ensures.value c.in_ok-fill_defaults.ensures.blocks size fits

pub returns-clause-ok : goal.returns-clause-ok
returns-clause-ok c =
    let o : Object = object_of c.args.header (map default_of c.args.fields.now) in
    let size : c.size-size.result ≡ object_cells o = c.size-size.ensures ∙ sym (ap (class_size c.args.header.class) (length-map c.args.fields.now default_of)) in
    let old : Young = record { limit = c.self.inside.limit; lanes = c.self.inside.stores.items } in
    let place = c.in_ok-place.ensures.ok ∙ ap (next_place c.index_mut-store.result.now) size in
    let new = made old (c.args.worker % 16) c.in_ok-place.place c.index_mut-store.result.now c.fill_defaults.new.self o c.self.invariant.nurseries (omega arith) c.index_mut-store.ensures.value place c.in_ok-place.ensures.lane c.in_ok-fill_defaults.ensures.ok c.in_ok-fill_defaults.ensures.blocks in
    subst (λ y. IsMade y (record { limit = old.limit; lanes = slice_set old.lanes (c.args.worker % 16) c.fill_defaults.new.self }) (c.args.worker % 16) c.in_ok-place.place o) c.self.view_is new
