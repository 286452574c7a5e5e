use Rattle.std.proofs.Common.{◌≡◌, length, arith, ap, ◌∙◌, sym}
use Rattle.jm_heap.specs.Cells.{class_size}
use Rattle.jm_heap.specs.NewObject.{new_object}
use Rattle.jm_heap.specs.declared.class_id.ClassId.TheVariants.{Instance, Array}
use Rattle.jm_heap.proofs.NewLemmas.{value_count, array_count, type_in, as_many, type_is, few_values}
use Rattle.jm_heap.proofs.shape.Shape.cells.Goals as goal

pub returns-in-Instance-clause-value : goal.returns-in-Instance-clause-value
returns-in-Instance-clause-value c =
    let many : length (new_object c.args.self).values ≡ length c.in-Instance.fields.now = as_many c.args.self ∙ ap value_count c.in-Instance.is in
    let type : (new_object c.args.self).type ≡ Instance c.in-Instance.class = type_is c.args.self ∙ ap type_in c.in-Instance.is in
    c.size.ensures ∙ ap (class_size (Instance c.in-Instance.class)) (sym many) ∙ ap (λ t. class_size t (length (new_object c.args.self).values)) (sym type)

pub returns-in-Instance-clause-short : goal.returns-in-Instance-clause-short
returns-in-Instance-clause-short c few =
    let size = returns-in-Instance-clause-value c in
    let elements : array_count c.args.self ≡ 0 = ap array_count c.in-Instance.is in
    few_values c.args.self (omega (arith, elements)) (omega (arith, size, few))

pub returns-in-Array-clause-value : goal.returns-in-Array-clause-value
returns-in-Array-clause-value c =
    let many : length (new_object c.args.self).values ≡ c.in-Array.length = as_many c.args.self ∙ ap value_count c.in-Array.is in
    let type : (new_object c.args.self).type ≡ Array c.in-Array.component = type_is c.args.self ∙ ap type_in c.in-Array.is in
    c.array_cells.ensures.value ∙ ap (class_size (Array c.in-Array.component)) (sym many) ∙ ap (λ t. class_size t (length (new_object c.args.self).values)) (sym type)

pub returns-in-Array-clause-short : goal.returns-in-Array-clause-short
returns-in-Array-clause-short c few =
    let many : length (new_object c.args.self).values ≡ c.in-Array.length = as_many c.args.self ∙ ap value_count c.in-Array.is in
    omega (arith, many, c.array_cells.ensures.few)
