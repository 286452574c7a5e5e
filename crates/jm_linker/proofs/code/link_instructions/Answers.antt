-- One more instruction.
use Rattle.std.proofs.Common.{length, refl, arith}
use Rattle.std.proofs.lemmas.Option.{slice_get_read}
use Rattle.jm_world.specs.Loads.{instruction_refusal}
use Rattle.jm_linker.proofs.CodeLaws.{linked_more}
use Rattle.jm_linker.proofs.LiteralLaws.{instruction_literals}
use Rattle.jm_linker.proofs.Reasons.{first_after}
use Rattle.jm_linker.proofs.code.link_instructions.Goals as goal

pub link_instruction-requires : goal.link_instruction-requires
link_instruction-requires c =
    instruction_literals c.args.classes.now.program.now c.args.instructions.now c.loop-instruction.instruction-index c.instruction-item.result c.requires
    (slice_get_read c.args.instructions.now (length c.args.instructions.now) c.loop-instruction.instruction-index c.instruction-item.result refl (omega arith)
    c.instruction-item.is)

pub loop-instruction-preserved : goal.loop-instruction-preserved
loop-instruction-preserved c =
    let program = c.args.classes.now.program.now in
    let n = c.loop-instruction.instruction-index in
    let inv = c.loop-instruction.invariant in
    let one = c.in_ok-link_instruction.ensures in (
      first_after (instruction_refusal program) c.args.instructions.now n c.instruction-item.result (omega arith) c.instruction-item.is one.refusal inv.0,
      linked_more program c.args.caller.now c.loop-instruction.linked.items c.push.new.self.items c.args.instructions.now n c.in_ok-link_instruction.field-0 c.instruction-item.result
          (omega arith) c.instruction-item.is c.in_ok-push.ensures.items inv.1 (one.linked, one.calls),
    )
