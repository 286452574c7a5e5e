-- The first method that is main.
use Rattle.std.proofs.Common.{sym, ◌∙◌, arith}
use Rattle.jm_linker.proofs.MainLaws.{main_here}
use Rattle.jm_linker.proofs.main_method.main_number.Goals as goal

pub returns-then-is_main_method : goal.returns-then-is_main_method
returns-then-is_main_method c =
    (omega arith, main_here c.args.methods.now c.loop-index.index c.index-methods-index.result (omega arith) c.index-methods-index.is (sym c.is_main_method.ensures ∙ c.if-is_main_method.true) c.loop-index.invariant)
