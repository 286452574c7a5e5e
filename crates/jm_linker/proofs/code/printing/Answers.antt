-- A method that prints.
use Rattle.std.proofs.Common.{sym, ◌∙◌}
use Rattle.jm_linker.proofs.CodeLaws.{printing}
use Rattle.jm_linker.proofs.code.printing.Goals as goal

pub returns-then-is_class_call : goal.returns-then-is_class_call
returns-then-is_class_call c =
    printing c.args.op c.args.method.now c.print_method.result (sym c.is_class_call.ensures ∙ c.if-is_class_call.true) c.print_method.ensures
