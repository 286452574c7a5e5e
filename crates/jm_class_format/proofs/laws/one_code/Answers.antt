use Rattle.jm_bytes.proofs.Unique.{one_value}
use Rattle.jm_class_format.specs.Code.{code}
use Rattle.jm_class_format.proofs.laws.one_code.Goals as goal

pub returns : goal.returns
returns c bytes a b h k = one_value code bytes a b h k
