use Rattle.std.proofs.Common.{sym, ◌∙◌}
use Rattle.jm_class_writer.specs.ClassParts.{put_field}
use Rattle.jm_class_writer.specs.Ranges.{FieldInRange}
use Rattle.jm_class_writer.proofs.Loops.{all_next, known_next, known_all}
use Rattle.jm_class_writer.proofs.class_file.put_fields.Goals as goal

pub loop-field-preserved : goal.loop-field-preserved
loop-field-preserved c = record {
  so_far = sym (all_next put_field c.args.fields.now c.loop-field.field-index c.field-item.result c.field-item.result c.loop-field.draft c.put_field.new.draft c.loop-field-test.true c.field-item.is c.in_ok-put_field.ensures.field) ∙ c.loop-field.invariant.so_far;
  range = known_next FieldInRange c.args.fields.now c.loop-field.field-index c.field-item.result c.loop-field-test.true c.field-item.is c.loop-field.invariant.range c.in_ok-put_field.ensures.range;
}

pub returns-clause-range : goal.returns-clause-range
returns-clause-range c = known_all FieldInRange c.args.fields.now c.loop-field.field-index c.loop-field-test.false c.loop-field.invariant.range
