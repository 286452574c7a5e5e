-- Both are what is read.
use Rattle.jm_program.proofs.Parsing.{one_shape, one_spelling}
use Rattle.jm_program.proofs.laws.one_descriptor.Goals as goal

pub returns : goal.returns
returns c = record { shape = one_shape; spelling = one_spelling }
