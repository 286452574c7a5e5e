use Rattle.std.proofs.lemmas.Result.{err_from_is_err_and}
use Rattle.jm_class_format.specs.declared.read_fault.ReadFault.TheVariants.{Cut}
use Rattle.jm_class_format.specs.Members.{constant_value}
use Rattle.jm_class_reader.proofs.Attributes.{info_fault}
use Rattle.jm_class_reader.proofs.field.whole_constant.Goals as goal

pub returns-in_err-value-clause-given : goal.returns-in_err-value-clause-given
returns-in_err-value-clause-given c =
    let p = err_from_is_err_and c.from_residual-in_err-value.result c.from_residual-in_err-value.ensures.1 in
    rw (p.1, p.2) (λ other. info_fault Cut (constant_value c.args.symbols.now c.args.field_type.now) c.args.reader.now c.in_ok-bytes.bytes.now c.info.new.reader _ c.in_ok-bytes.ensures (rw c.new-inside.ensures at (c.in_err-value.ensures.given other)))
