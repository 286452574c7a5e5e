use Rattle.std.proofs.Common.{◌≡◌, ◌++◌, take, drop}
use Rattle.std.specs.List.{All, flat_map}
use Rattle.jm_program.specs.Descriptors.{field_text}
use Rattle.jm_class_writer.specs.Ranges.{TypeInRange}
use Rattle.jm_class_writer.proofs.texts.push_parameters.Given as goal

abbrev pub invariant-loop-parameter : goal.invariant-loop-parameter
invariant-loop-parameter l = record {
  so_far : l.text.items ++ flat_map field_text (drop l.parameter-index l.parameters) ≡ l.fn.text.items ++ flat_map field_text l.parameters;
  range : All TypeInRange (take l.parameter-index l.parameters);
}
