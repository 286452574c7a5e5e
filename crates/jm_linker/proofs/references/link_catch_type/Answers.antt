-- The name of the class of the number.
use Rattle.std.proofs.Common.{Some, sym, ap, ◌∙◌}
use Rattle.jm_linker.proofs.FoundNumberLaws.{names_itself}
use Rattle.jm_linker.proofs.references.link_catch_type.Goals as goal
use Rattle.jm_linked.proofs.Classes.{class_name_is}

pub returns-in_ok-find_class-in-Some-clause-named : goal.returns-in_ok-find_class-in-Some-clause-named
returns-in_ok-find_class-in-Some-clause-named c =
    ap Some (class_name_is c.args.classes.now.program.now c.in_ok-find_class-in-Some.field-0 c.in-Some.name c.in_ok-find_class-in-Some.ensures.named)
    ∙ sym c.in-Some.is

pub returns-in_ok-find_class-in-Some-clause-caught : goal.returns-in_ok-find_class-in-Some-clause-caught
returns-in_ok-find_class-in-Some-clause-caught c =
    names_itself c.args.classes.now.program.now c.in_ok-find_class-in-Some.field-0 c.in-Some.name c.in_ok-find_class-in-Some.ensures.named
