use Rattle.jm_bytes.proofs.Unique.{whole_found, whole_only}
use Rattle.jm_class_format.specs.Code.{code}
use Rattle.jm_class_format.specs.declared.fault.CodeFault.TheVariants.{OutOfMemory}
use Rattle.jm_opcodes.proofs.decode.decode_code.Goals as goal

pub returns-clause-spelled : goal.returns-clause-spelled
returns-clause-spelled c = whole_found code (λ v. v.items) OutOfMemory c.code_in.result c.args.bytes.now c.code_in.ensures.given

pub returns-clause-only : goal.returns-clause-only
returns-clause-only c = whole_only code (λ v. v.items) OutOfMemory c.code_in.result c.args.bytes.now c.code_in.ensures.given
