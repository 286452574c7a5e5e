use Rattle.jm_bytes.proofs.Unique.{whole_found, whole_only}
use Rattle.jm_class_format.specs.ClassFile.{class_file}
use Rattle.jm_class_format.specs.declared.read_fault.ReadFault.TheVariants.{OutOfMemory}
use Rattle.jm_class_reader.proofs.class.read_class.Goals as goal

pub returns-clause-spelled : goal.returns-clause-spelled
returns-clause-spelled c = whole_found class_file (λ class. class) OutOfMemory c.whole_class.result c.args.bytes.now c.whole_class.ensures

pub returns-clause-only : goal.returns-clause-only
returns-clause-only c = whole_only class_file (λ class. class) OutOfMemory c.whole_class.result c.args.bytes.now c.whole_class.ensures
