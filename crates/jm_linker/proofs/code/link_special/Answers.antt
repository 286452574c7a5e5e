-- The method that is called, or the one that the reference means.
use Rattle.std.proofs.Common.{subst}
use Rattle.jm_linker.specs.Specials.{NumbersCalled, called_from}
use Rattle.jm_linker.proofs.SpecialLaws.{links_called, links_none}
use Rattle.jm_linker.proofs.code.link_special.Goals as goal

pub returns-in-Some : goal.returns-in-Some
returns-in-Some c =
    links_called c.args.classes.now.program.now c.args.caller.now c.args.method.now c.args.invoked c.in-Some.found c.requires.resolved
    (λ name class. subst (λ o. NumbersCalled c.args.classes.now.program.now c.args.method.now
    (called_from c.args.classes.now.program.now c.args.caller.now name c.args.method.now) o) c.in-Some.is (c.in_ok-found.ensures name class))

pub returns-in-None : goal.returns-in-None
returns-in-None c =
    links_none c.args.classes.now.program.now c.args.caller.now c.args.method.now c.args.invoked c.requires.resolved c.requires.loads
    (λ name class. subst (λ o. NumbersCalled c.args.classes.now.program.now c.args.method.now
    (called_from c.args.classes.now.program.now c.args.caller.now name c.args.method.now) o) c.in-None.is (c.in_ok-found.ensures name class))
