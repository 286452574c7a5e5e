-- The methods of all classes.
use Rattle.std.proofs.Common.{ap, ◌∙◌}
use Rattle.jm_linked.specs.Methods.{code_numbers, numbered_codes}
use Rattle.jm_linker.proofs.codes.code_numbers.Goals as goal

pub returns : goal.returns
unfolding code_numbers
returns c = c.in_ok-codes.ensures ∙ ap (numbered_codes 0) c.methods.ensures
