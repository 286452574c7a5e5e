use Rattle.std.proofs.Common.{◌+◌, ◌++◌, ℕ, List, ap, ◌∙◌, drop}
use Rattle.std.specs.List.{flat_map}
use Rattle.jm_bytes.proofs.Loops.{texts_next}
use Rattle.jm_program.specs.Descriptors.{field_text}
use Rattle.jm_class_writer.specs.Ranges.{TypeInRange}
use Rattle.jm_class_writer.proofs.Loops.{known_next, known_all}
use Rattle.jm_class_writer.proofs.texts.push_parameters.Goals as goal

pub loop-parameter-preserved : goal.loop-parameter-preserved
loop-parameter-preserved c = record {
  so_far =
      ap (λ (text : List ℕ). text ++ flat_map field_text (drop (c.loop-parameter.parameter-index + 1) c.args.parameters.now)) c.in_ok-push_field_type.ensures.text
      ∙ texts_next field_text c.loop-parameter.text.items c.args.parameters.now c.loop-parameter.parameter-index c.parameter-item.result c.parameter-item.result c.loop-parameter-test.true c.parameter-item.is
      ∙ c.loop-parameter.invariant.so_far;
  range = known_next TypeInRange c.args.parameters.now c.loop-parameter.parameter-index c.parameter-item.result c.loop-parameter-test.true c.parameter-item.is c.loop-parameter.invariant.range c.in_ok-push_field_type.ensures.range;
}

pub returns-clause-range : goal.returns-clause-range
returns-clause-range c = known_all TypeInRange c.args.parameters.now c.loop-parameter.parameter-index c.loop-parameter-test.false c.loop-parameter.invariant.range
