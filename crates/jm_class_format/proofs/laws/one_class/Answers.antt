use Rattle.jm_bytes.proofs.Unique.{one_value}
use Rattle.jm_class_format.specs.ClassFile.{class_file}
use Rattle.jm_class_format.proofs.laws.one_class.Goals as goal

pub returns : goal.returns
returns c bytes a b h k = one_value class_file bytes a b h k
