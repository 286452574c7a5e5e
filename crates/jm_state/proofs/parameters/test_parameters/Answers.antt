-- An operand more, or the first that is none of its type.
use Rattle.std.proofs.Common.{ap, arith, length, refl, sym, ◌∙◌}
use Rattle.std.proofs.lemmas.Option.{slice_get-get_or}
use Rattle.jm_program.specs.declared.instruction.operation.OperandType.TheVariants as operand
use Rattle.jm_values.specs.Steps.{is_of}
use Rattle.jm_state.proofs.Popping.{one_popped, too_few, wrong_type}
use Rattle.jm_state.proofs.Tested.{type_at, types_of, many_types}
use Rattle.jm_state.proofs.parameters.test_parameters.Goals as goal

pub returns-in_default : goal.returns-in_default
returns-in_default c =
    let types = types_of c.args.parameters.now in
    let many = many_types c.args.parameters.now in
    too_few types c.args.frame.now.activation.stack c.loop-depth.depth _ c.loop-depth.invariant
    (slice_get-get_or types c.loop-depth.depth operand.Int (omega arith)) (sym c.operand.ensures.value ∙ c.in_default.is)

pub returns-then-not-is_of : goal.returns-then-not-is_of
returns-then-not-is_of c =
    let list = c.args.parameters.now in
    wrong_type (types_of list) c.args.frame.now.activation.stack c.loop-depth.depth _ c.in-Some.operand c.loop-depth.invariant
    (type_at list (length list) c.loop-depth.depth c.index-parameters-count.result refl (omega arith) c.index-parameters-count.is)
    (sym c.operand.ensures.value ∙ c.in-Some.is)
    (ap (λ t. is_of t c.in-Some.operand) (sym c.operand_of.ensures) ∙ sym c.is_of.ensures ∙ c.if-not-is_of.true)

pub loop-depth-preserved : goal.loop-depth-preserved
loop-depth-preserved c =
    let list = c.args.parameters.now in
    one_popped (types_of list) c.args.frame.now.activation.stack c.loop-depth.depth _ c.in-Some.operand c.loop-depth.invariant
    (type_at list (length list) c.loop-depth.depth c.index-parameters-count.result refl (omega arith) c.index-parameters-count.is)
    (sym c.operand.ensures.value ∙ c.in-Some.is)
    (ap (λ t. is_of t c.in-Some.operand) (sym c.operand_of.ensures) ∙ sym c.is_of.ensures ∙ c.if-not-is_of.false)
