-- One more method, with code or without.
use Rattle.std.proofs.Common.{ap, not, ◌∙◌, arith}
use Rattle.jm_linker.proofs.MethodLaws.{counted_more, counted_past}
use Rattle.jm_linker.proofs.main_method.count_coded.Goals as goal

pub loop-method-preserved-then-is_none : goal.loop-method-preserved-then-is_none
loop-method-preserved-then-is_none c =
    let i = c.loop-method.invariant in (
      counted_past c.args.methods.now c.loop-method.method-index c.loop-method.count c.method-item.result (omega arith) c.method-item.is
          (c.is_none.ensures ∙ ap not c.if-is_none.true) i.0,
      omega (arith, i.1),
    )

pub loop-method-preserved : goal.loop-method-preserved
loop-method-preserved c =
    let i = c.loop-method.invariant in (
      counted_more c.args.methods.now c.loop-method.method-index c.loop-method.count c.method-item.result (omega arith) c.method-item.is
          (c.is_none.ensures ∙ ap not c.if-is_none.false) i.0,
      omega (arith, i.1),
    )
