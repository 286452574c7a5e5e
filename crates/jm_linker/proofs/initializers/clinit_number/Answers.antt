-- The first method that is it.
use Rattle.std.proofs.Common.{sym, ◌∙◌, arith}
use Rattle.jm_linker.proofs.InitializerLaws.{clinit_here, clinit_past}
use Rattle.jm_linker.proofs.initializers.clinit_number.Goals as goal

pub returns-then-is_class_initializer : goal.returns-then-is_class_initializer
returns-then-is_class_initializer c = (
  omega arith,
  clinit_here c.args.methods.now c.loop-index.index c.index-methods-index.result (omega arith) c.index-methods-index.is
      (sym c.is_class_initializer.ensures ∙ c.if-is_class_initializer.true) c.loop-index.invariant,
)

pub loop-index-preserved : goal.loop-index-preserved
loop-index-preserved c =
    clinit_past c.args.methods.now c.loop-index.index c.index-methods-index.result (omega arith) c.index-methods-index.is
    (sym c.is_class_initializer.ensures ∙ c.if-is_class_initializer.false) c.loop-index.invariant
