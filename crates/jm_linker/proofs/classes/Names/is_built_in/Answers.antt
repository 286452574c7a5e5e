-- Found among the built-in classes.
use Rattle.std.proofs.Common.{◌∙◌}
use Rattle.jm_linker.proofs.ClassLaws.{built_in_told}
use Rattle.jm_linker.proofs.classes.Names.is_built_in.Goals as goal

pub returns : goal.returns
returns c = c.is_some.ensures ∙ built_in_told _ _ _ c.args.self.now.complete c.find_in.ensures
