-- An operand more, or the first that is none of its type.
use Rattle.std.proofs.Common.{arith, sym, ◌∙◌}
use Rattle.std.proofs.lemmas.Option.{slice_get-get_or}
use Rattle.jm_program.specs.declared.instruction.operation.OperandType.TheVariants as operand
use Rattle.jm_state.proofs.Popping.{one_popped, too_few, wrong_type}
use Rattle.jm_state.proofs.arguments.test_arguments.Goals as goal

pub returns-in_default : goal.returns-in_default
returns-in_default c =
    let types = c.args.parameters.now in
    too_few types c.args.frame.now.activation.stack c.loop-depth.depth _ c.loop-depth.invariant
    (slice_get-get_or types c.loop-depth.depth operand.Int (omega arith)) (sym c.operand.ensures.value ∙ c.in_default.is)

pub returns-then-not-is_of : goal.returns-then-not-is_of
returns-then-not-is_of c =
    let types = c.args.parameters.now in
    wrong_type types c.args.frame.now.activation.stack c.loop-depth.depth _ c.in-Some.operand c.loop-depth.invariant
    (slice_get-get_or types c.loop-depth.depth operand.Int (omega arith)) (sym c.operand.ensures.value ∙ c.in-Some.is) (sym c.is_of.ensures ∙ c.if-not-is_of.true)

pub loop-depth-preserved : goal.loop-depth-preserved
loop-depth-preserved c =
    let types = c.args.parameters.now in
    one_popped types c.args.frame.now.activation.stack c.loop-depth.depth _ c.in-Some.operand c.loop-depth.invariant
    (slice_get-get_or types c.loop-depth.depth operand.Int (omega arith)) (sym c.operand.ensures.value ∙ c.in-Some.is) (sym c.is_of.ensures ∙ c.if-not-is_of.false)
