use Rattle.std.proofs.Common.{◌≡◌, ap, sym, ◌∙◌, length, arith}
use Rattle.jm_values.specs.Rename.{stack_shape}
use Rattle.jm_values.proofs.Marking.{among_at}
use Rattle.jm_blocks.specs.Stores.{objects_in}
use Rattle.jm_gen_heap.specs.Collections.{refs_in}
use Rattle.jm_gen_heap.proofs.Putting.{not_before, fields_within, back_more}
use Rattle.jm_gen_heap.proofs.fields.put_fields.Goals as goal

pub put_references-next-requires-clause-there : goal.put_references-next-requires-clause-there
put_references-next-requires-clause-there c =
    let ps = c.args.objects.now in
    let i = c.loop-object.object-index in
    let p = c.object-item.result in
    let there = c.requires.there p (among_at ps i p c.loop-object-test.true c.object-item.is) in
    (there.0, c.loop-object.invariant.back.others p (λ a. not_before ps i p c.requires.distinct c.loop-object-test.true c.object-item.is a) ∙ there.1)

pub put_references-next-requires-clause-enough : goal.put_references-next-requires-clause-enough
put_references-next-requires-clause-enough c o e =
    let ps = c.args.objects.now in
    let i = c.loop-object.object-index in
    let p = c.object-item.result in
    let as_before = c.loop-object.invariant.back.others p (λ a. not_before ps i p c.requires.distinct c.loop-object-test.true c.object-item.is a) in
    let here : length (refs_in (objects_in c.args.store.now p)) ≡ length (stack_shape.refs o.values) = ap (λ x. length (refs_in x)) (sym as_before ∙ e) in
    let within = fields_within c.args.store.now ps i p c.loop-object-test.true c.object-item.is in
    omega (arith, here, within, c.loop-object.invariant.come, c.requires.enough)

pub loop-object-preserved : goal.loop-object-preserved
loop-object-preserved c =
    let ps = c.args.objects.now in
    let i = c.loop-object.object-index in
    let p = c.object-item.result in
    let there = c.requires.there p (among_at ps i p c.loop-object-test.true c.object-item.is) in
    back_more c.requires.distinct c.loop-object-test.true c.object-item.is c.loop-object.invariant there c.put_references-next.ensures.put c.put_references-next.ensures.next
