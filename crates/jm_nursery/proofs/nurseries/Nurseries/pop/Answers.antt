use Rattle.std.proofs.Common.{◌≡◌, ◌%◌, ◌<◌, length, ap, ◌∙◌, refl, sym, subst, arith}
use Rattle.std.specs.Prelude.{Some, slice_get, slice_set}
use Rattle.std.proofs.lemmas.Option.{slice_get_read}
use Rattle.jm_blocks.specs.Stores.{HasObject, IsEmpty, IsLast}
use Rattle.jm_nursery.specs.Nurseries.{IsUnmade}
use Rattle.jm_nursery.proofs.Making.{one_read, last_popped, given_up, young_fewer, unmade}
use Rattle.jm_nursery.proofs.nurseries.Nurseries.pop.Goals as goal

pub overflow_sub-self : goal.overflow_sub-self
overflow_sub-self c =
    let i = c.self.inside in
    let up = (given_up i.stores.items (c.args.worker % 16) c.in-Some.place c.cells_at-size.result c.index.result.now c.index-2.result.now c.index_mut-store.result.now c.pop.new.self (let many = c.self.invariant.nurseries.many in omega (arith, many)) c.index.ensures c.index-2.ensures c.index_mut-store.ensures.value c.in-Some.ensures c.cells_at-size.ensures c.pop.ensures.popped) in
    (young_fewer i.limit i.cells c.cells_at-size.result i.stores.items (c.args.worker % 16) c.in-Some.place c.index_mut-store.result.now c.pop.new.self up.0 c.self.invariant (omega arith) c.index_mut-store.ensures.value up.2 c.pop.ensures.lane up.1).0

pub invariant_of-self : goal.invariant_of-self
invariant_of-self c =
    let i = c.self.inside in
    let up = (given_up i.stores.items (c.args.worker % 16) c.in-Some.place c.cells_at-size.result c.index.result.now c.index-2.result.now c.index_mut-store.result.now c.pop.new.self (let many = c.self.invariant.nurseries.many in omega (arith, many)) c.index.ensures c.index-2.ensures c.index_mut-store.ensures.value c.in-Some.ensures c.cells_at-size.ensures c.pop.ensures.popped) in
    (young_fewer i.limit i.cells c.cells_at-size.result i.stores.items (c.args.worker % 16) c.in-Some.place c.index_mut-store.result.now c.pop.new.self up.0 c.self.invariant (omega arith) c.index_mut-store.ensures.value up.2 c.pop.ensures.lane up.1).1

pub returns-clause-popped : goal.returns-clause-popped
returns-clause-popped c s p there has last =
    let i = c.self.inside in
    let n = c.args.worker % 16 in
    let up = (given_up i.stores.items (c.args.worker % 16) c.in-Some.place c.cells_at-size.result c.index.result.now c.index-2.result.now c.index_mut-store.result.now c.pop.new.self (let many = c.self.invariant.nurseries.many in omega (arith, many)) c.index.ensures c.index-2.ensures c.index_mut-store.ensures.value c.in-Some.ensures c.cells_at-size.ensures c.pop.ensures.popped) in
    let cur = c.index_mut-store.result.now in
    let few : n < length i.stores.items = (let many = c.self.invariant.nurseries.many in omega (arith, many)) in
    let first = subst (λ t. HasObject t c.in-Some.place × IsLast t c.in-Some.place) (one_read i.stores.items n c.index.result.now cur few c.index.ensures c.index_mut-store.ensures.value) c.in-Some.ensures in
    let at = last_popped i.stores.items n s cur p c.in-Some.place few (ap (λ y. slice_get y.lanes n) c.self.view_is ∙ there) c.index_mut-store.ensures.value has last first in
    let new = unmade (record { limit = i.limit; lanes = i.stores.items }) n c.in-Some.place cur c.pop.new.self up.0 c.self.invariant.nurseries (omega arith) c.index_mut-store.ensures.value up.2 c.pop.ensures.lane in (
      up.0,
      subst (λ q. IsUnmade c.args.self.now (record { limit = i.limit; lanes = slice_set i.stores.items n c.pop.new.self }) n q up.0) at (subst (λ y. IsUnmade y (record { limit = i.limit; lanes = slice_set i.stores.items n c.pop.new.self }) n c.in-Some.place up.0) c.self.view_is new),
    )

pub returns-clause-empty : goal.returns-clause-empty
returns-clause-empty c s there none =
    let xs = c.self.inside.stores.items in
    let many = c.self.invariant.nurseries.many in
    let read = slice_get_read xs (length xs) (c.args.worker % 16) c.index.result.now refl (omega (arith, many)) c.index.ensures in
    let same : Some c.index.result.now ≡ Some s = sym read ∙ ap (λ y. slice_get y.lanes (c.args.worker % 16)) c.self.view_is ∙ there in
    let some = c.in-Some.ensures.0.1 in
    let store : c.index.result.now ≡ s = cc in
    let nowhere = subst IsEmpty (sym store) none c.in-Some.place in
    absurd cc
