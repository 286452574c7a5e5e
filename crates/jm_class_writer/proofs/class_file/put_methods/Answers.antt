use Rattle.std.proofs.Common.{◌≡◌, true, subst, sym, ◌∙◌}
use Rattle.jm_program.specs.Fits.{method_fits}
use Rattle.jm_program.specs.declared.class.Method.{Method}
use Rattle.jm_class_writer.proofs.Fitting.{all_at, method_instructions}
use Rattle.jm_class_writer.specs.ClassParts.{put_method}
use Rattle.jm_class_writer.specs.Ranges.{MethodInRange}
use Rattle.jm_class_writer.proofs.Loops.{all_next, known_next, known_all}
use Rattle.jm_class_writer.proofs.class_file.put_methods.Goals as goal

pub put_method-requires : goal.put_method-requires
put_method-requires c =
    method_instructions c.requires.0 c.method-item.result
    (subst (λ (m : Method). method_fits c.requires.0 m ≡ true) (sym c.method-item.is) (all_at (method_fits c.requires.0) c.args.methods.now c.loop-method.method-index c.method-item.result c.requires.1 c.loop-method-test.true))

pub loop-method-preserved : goal.loop-method-preserved
loop-method-preserved c = record {
  so_far = sym (all_next put_method c.args.methods.now c.loop-method.method-index c.method-item.result c.method-item.result c.loop-method.draft c.put_method.new.draft c.loop-method-test.true c.method-item.is c.in_ok-put_method.ensures.method) ∙ c.loop-method.invariant.so_far;
  range = known_next MethodInRange c.args.methods.now c.loop-method.method-index c.method-item.result c.loop-method-test.true c.method-item.is c.loop-method.invariant.range c.in_ok-put_method.ensures.range;
}

pub returns-clause-range : goal.returns-clause-range
returns-clause-range c = known_all MethodInRange c.args.methods.now c.loop-method.method-index c.loop-method-test.false c.loop-method.invariant.range
