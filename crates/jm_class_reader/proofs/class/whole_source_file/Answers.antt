use Rattle.std.proofs.lemmas.Result.{err_from_is_err_and}
use Rattle.jm_class_format.specs.declared.read_fault.ReadFault.TheVariants.{Cut}
use Rattle.jm_class_format.specs.ClassFile.{source_file}
use Rattle.jm_class_reader.proofs.Attributes.{info_fault}
use Rattle.jm_class_reader.proofs.class.whole_source_file.Goals as goal

pub returns-in_err-file : goal.returns-in_err-file
returns-in_err-file c =
    let p = err_from_is_err_and c.from_residual-in_err-file.result c.from_residual-in_err-file.ensures.1 in
    rw (p.1, p.2) (λ other. info_fault Cut (source_file c.args.pool.now) c.args.reader.now c.in_ok-bytes.bytes.now c.info.new.reader _ c.in_ok-bytes.ensures (rw c.new-inside.ensures at (c.in_err-file.ensures other)))
