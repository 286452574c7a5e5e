use Rattle.std.proofs.Common.{◌≡◌, true, subst}
use Rattle.jm_program.specs.References.{method_ref_fits}
use Rattle.jm_program.specs.declared.instruction.operation.InvokeOp.{InvokeOp}
use Rattle.jm_class_writer.proofs.Fitting.{slots_fit}
use Rattle.jm_class_writer.proofs.instruction.invoke_of.Goals as goal

pub interface_slots-requires : goal.interface_slots-requires
interface_slots-requires c = slots_fit c.args.method.now (subst (λ (op : InvokeOp). method_ref_fits op c.args.method.now ≡ true) c.in-Interface.is c.requires)
