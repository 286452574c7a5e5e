use Rattle.std.proofs.Common.{sym, ◌∙◌}
use Rattle.jm_class_writer.specs.ClassParts.{put_class}
use Rattle.jm_class_writer.specs.Ranges.{UnitsInRange}
use Rattle.jm_class_writer.proofs.Loops.{all_next, known_next, known_all}
use Rattle.jm_class_writer.proofs.class_file.put_interfaces.Goals as goal

pub loop-name-preserved : goal.loop-name-preserved
loop-name-preserved c = record {
  so_far = sym (all_next put_class c.args.names.now c.loop-name.name-index c.name-item.result c.name-item.result c.loop-name.draft c.put_class.new.draft c.loop-name-test.true c.name-item.is c.in_ok-put_class.ensures.class) ∙ c.loop-name.invariant.so_far;
  range = known_next UnitsInRange c.args.names.now c.loop-name.name-index c.name-item.result c.loop-name-test.true c.name-item.is c.loop-name.invariant.range c.in_ok-put_class.ensures.range;
}

pub returns-clause-range : goal.returns-clause-range
returns-clause-range c = known_all UnitsInRange c.args.names.now c.loop-name.name-index c.loop-name-test.false c.loop-name.invariant.range
