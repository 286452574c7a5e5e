-- The files so far.
use Rattle.std.proofs.Common.{◌≡◌, map, take}
use Rattle.std.specs.String.{string_bytes}
use Rattle.jm_class_path.proofs.program.files_of.Given as goal

abbrev pub invariant-loop-name : goal.invariant-loop-name
invariant-loop-name g l = map g.R.FileReader.facts.name_of l.files.items ≡ map (λ name. string_bytes name) (take l.name-index l.names)
