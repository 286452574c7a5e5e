-- Keys are equal exactly where types are the same.
use Rattle.std.proofs.Common.{◌∙◌, ap}
use Rattle.std.specs.Ordering.{is_eq}
use Rattle.jm_linker.proofs.KeyLaws.{types_tied}
use Rattle.jm_linker.proofs.key.is_type_key.Goals as goal

pub returns : goal.returns
returns c = λ t keyed. c.is_eq.ensures ∙ ap is_eq c.cmp.ensures ∙ types_tied c.type_key.result c.args.key.now c.args.field_type.now t c.type_key.ensures keyed
