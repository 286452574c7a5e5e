-- By the number of the first class of the name.
use Rattle.std.proofs.Common.{Some, None, sym, ◌∙◌}
use Rattle.jm_linker.proofs.Numbers.{stands_before_number}
use Rattle.jm_linker.proofs.classes.Names.stands_before.Goals as goal

pub returns-in-Some : goal.returns-in-Some
returns-in-Some c =
    sym (stands_before_number c.args.self.now.program.now c.args.number c.args.name.now (Some c.in-Some.first)
    (sym (c.number_in.ensures c.args.self.now.program.now c.args.self.now.numbered) ∙ c.in-Some.is))

pub returns-in-None : goal.returns-in-None
returns-in-None c =
    sym (stands_before_number c.args.self.now.program.now c.args.number c.args.name.now None
    (sym (c.number_in.ensures c.args.self.now.program.now c.args.self.now.numbered) ∙ c.in-None.is))
