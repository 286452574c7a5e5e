-- The lookups so far; each makes one name more known.
use Rattle.std.proofs.Common.{length, map, ◌-◌, ◌^◌}
use Rattle.std.specs.String.{string_bytes}
use Rattle.jm_class_path.specs.Files.{IsFoundAs}
use Rattle.jm_class_path.specs.Lookups.{Lead}
use Rattle.jm_class_path.specs.Search.{begun}
use Rattle.jm_class_path.proofs.finder.find_classes.Given as goal

abbrev pub invariant-loop-name : goal.invariant-loop-name
invariant-loop-name g l = Lead (IsFoundAs g.R.FileReader.facts (map (λ folder. string_bytes folder) l.folders)) (begun l.fn.given.items) l.path l.files.items

abbrev pub decreases-loop-name : goal.decreases-loop-name
decreases-loop-name g l = 2 ^ 64 - length l.path.known
