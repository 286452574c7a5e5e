use Rattle.std.proofs.Common.{sym, ◌∙◌}
use Rattle.jm_class_writer.specs.CodeParts.{put_handler}
use Rattle.jm_class_writer.specs.Ranges.{HandlerInRange}
use Rattle.jm_class_writer.proofs.Loops.{all_next, known_next, known_all}
use Rattle.jm_class_writer.proofs.code_attribute.put_handlers.Goals as goal

pub loop-handler-preserved : goal.loop-handler-preserved
loop-handler-preserved c = record {
  so_far = sym (all_next (put_handler c.args.code.now) c.args.handlers.now c.loop-handler.handler-index c.handler-item.result c.handler-item.result c.loop-handler.draft c.put_handler.new.draft c.loop-handler-test.true c.handler-item.is c.in_ok-put_handler.ensures.handler) ∙ c.loop-handler.invariant.so_far;
  range = known_next HandlerInRange c.args.handlers.now c.loop-handler.handler-index c.handler-item.result c.loop-handler-test.true c.handler-item.is c.loop-handler.invariant.range c.in_ok-put_handler.ensures.range;
}

pub returns-clause-range : goal.returns-clause-range
returns-clause-range c = known_all HandlerInRange c.args.handlers.now c.loop-handler.handler-index c.loop-handler-test.false c.loop-handler.invariant.range
