use Rattle.std.proofs.Common.{◌≡◌, Some, sym, ap, ◌∙◌, subst, length, List, arith}
use Rattle.std.specs.Prelude.{slice_get}
use Rattle.jm_values.specs.declared.value.Value.{Value}
use Rattle.jm_values.specs.Objects.{ObjectOf}
use Rattle.jm_heap.specs.declared.class_id.ClassId.{ClassId}
use Rattle.jm_heap.proofs.ReadingLemmas.{lies, object_read, length_read, value_got, resident_got}
use Rattle.jm_heap.proofs.plain_heap.PlainHeap.object.Goals as goal

pub object_at-requires : goal.object_at-requires
object_at-requires c =
    let x = lies c.self.inside.limit c.self.inside.next c.self.inside.slots.items c.args.self.now c.self.view_is c.self.invariant.sound c.args.place c.requires.0 c.requires.2 in
    (x.0, x.1)

pub returns-clause-class : goal.returns-clause-class
returns-clause-class c k o e f =
    let x = lies c.self.inside.limit c.self.inside.next c.self.inside.slots.items c.args.self.now c.self.view_is c.self.invariant.sound c.args.place k e in
    (c.object_at.ensures x.0 x.1).0
    ∙ ap (λ (y : ObjectOf ClassId). y.type) (sym (object_read c.self.inside.limit c.self.inside.next c.self.inside.slots.items c.args.self.now c.self.view_is c.self.invariant.sound c.args.place k x.0 o (sym x.1) e f))

pub returns-clause-length : goal.returns-clause-length
returns-clause-length c k o e f =
    let x = lies c.self.inside.limit c.self.inside.next c.self.inside.slots.items c.args.self.now c.self.view_is c.self.invariant.sound c.args.place k e in
    ap (λ (vs : List Value). length vs) (c.object_at.ensures x.0 x.1).1
    ∙ length_read c.self.inside.limit c.self.inside.next c.self.inside.slots.items c.args.self.now c.self.view_is c.self.invariant.sound c.args.place k x.0 o (sym x.1) e f

pub returns-clause-short : goal.returns-clause-short
returns-clause-short c =
    let x = lies c.self.inside.limit c.self.inside.next c.self.inside.slots.items c.args.self.now c.self.view_is c.self.invariant.sound c.args.place c.requires.0 c.requires.2 in
    omega (arith, c.self.invariant.sound.short c.args.place x.0 x.1, ap (λ (vs : List Value). length vs) (c.object_at.ensures x.0 x.1).1)

pub returns-clause-values : goal.returns-clause-values
returns-clause-values c i v e =
    let x = lies c.self.inside.limit c.self.inside.next c.self.inside.slots.items c.args.self.now c.self.view_is c.self.invariant.sound c.args.place c.requires.0 c.requires.2 in
    value_got c.self.inside.limit c.self.inside.next c.self.inside.slots.items c.args.self.now c.self.view_is c.self.invariant.sound c.args.place i x.0 v (sym x.1) (subst (λ vs. slice_get vs i ≡ Some v) (c.object_at.ensures x.0 x.1).1 e)

pub returns-clause-resident : goal.returns-clause-resident
returns-clause-resident c i v e =
    let x = lies c.self.inside.limit c.self.inside.next c.self.inside.slots.items c.args.self.now c.self.view_is c.self.invariant.sound c.args.place c.requires.0 c.requires.2 in
    resident_got c.self.inside.limit c.self.inside.next c.self.inside.slots.items c.args.self.now c.self.view_is c.self.invariant.sound c.args.place i x.0 v (sym x.1) (subst (λ vs. slice_get vs i ≡ Some v) (c.object_at.ensures x.0 x.1).1 e)
