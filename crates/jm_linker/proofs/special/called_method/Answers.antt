-- An <init> is the named class's own, and another is searched for.
use Rattle.std.proofs.Common.{sym, ◌∙◌}
use Rattle.jm_linker.proofs.SpecialLaws.{initializer_called}
use Rattle.jm_linker.proofs.special.called_method.Goals as goal

pub returns-then-is_init : goal.returns-then-is_init
returns-then-is_init c = λ name class.
    initializer_called c.args.classes.now.program.now c.args.caller.now name c.args.method.now c.args.invoked c.requires.resolved c.requires.loads class
    (sym c.is_init.ensures ∙ c.if-is_init.true)
