use Rattle.std.proofs.lemmas.Result.{err_from_is_err_and}
use Rattle.jm_class_format.specs.declared.read_fault.ReadFault.TheVariants.{Cut}
use Rattle.jm_class_format.specs.CodeAttribute.{code_body}
use Rattle.jm_class_reader.proofs.Attributes.{info_fault}
use Rattle.jm_class_reader.proofs.method.whole_code.Goals as goal

pub returns-in_err-code-clause-given : goal.returns-in_err-code-clause-given
returns-in_err-code-clause-given c =
    let p = err_from_is_err_and c.from_residual-in_err-code.result c.from_residual-in_err-code.ensures.1 in
    rw (p.1, p.2) (λ other. info_fault Cut (code_body c.args.symbols.now c.args.slots) c.args.reader.now c.in_ok-bytes.bytes.now c.info.new.reader _ c.in_ok-bytes.ensures (rw c.new-inside.ensures at (c.in_err-code.ensures.given other)))
