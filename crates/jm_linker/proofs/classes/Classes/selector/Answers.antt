-- The number of the first method of the name and the type.
use Rattle.std.proofs.Common.{◌∙◌}
use Rattle.jm_linked.specs.Methods.{selector_of}
use Rattle.jm_linker.proofs.classes.Classes.selector.Goals as goal

pub returns : goal.returns
unfolding selector_of
returns c = λ name t keyed. c.copied.ensures ∙ c.get.ensures.value ∙ c.args.self.now.selected c.args.key.now name t keyed
