use Rattle.jm_bytes.proofs.Unique.{one_value}
use Rattle.jm_class_format.specs.ModifiedUtf8.{text}
use Rattle.jm_class_format.proofs.laws.one_text.Goals as goal

pub returns : goal.returns
returns c bytes a b h k = one_value text bytes a b h k
