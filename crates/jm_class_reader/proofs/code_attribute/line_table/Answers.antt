use Rattle.std.proofs.lemmas.Result.{err_from_is_err_and}
use Rattle.jm_class_format.specs.declared.read_fault.ReadFault.TheVariants.{BadAttribute}
use Rattle.jm_class_format.specs.CodeAttribute.{line_numbers}
use Rattle.jm_class_reader.proofs.Attributes.{info_fault}
use Rattle.jm_class_reader.proofs.code_attribute.line_table.Goals as goal

pub returns-in_err-lines : goal.returns-in_err-lines
returns-in_err-lines c =
    let p = err_from_is_err_and c.from_residual-in_err-lines.result c.from_residual-in_err-lines.ensures.1 in
    rw (p.1, p.2) (λ other. info_fault BadAttribute (line_numbers c.args.places.now) c.args.reader.now c.in_ok-bytes.bytes.now c.info.new.reader _ c.in_ok-bytes.ensures (rw c.new-inside.ensures at (c.in_err-lines.ensures other)))
