-- No key is left, no type is left, or one more of both.
use Rattle.std.proofs.Common.{◌∙◌}
use Rattle.jm_linker.proofs.KeyLaws.{no_keys}
use Rattle.jm_linker.proofs.key.+are_type_keys.Goals as goal

pub returns-in_default : goal.returns-in_default
returns-in_default t c = λ ts keyed. c.is_empty.ensures ∙ no_keys c.args.keys.now c.args.types.now ts c.in_default.ensures.cases keyed
