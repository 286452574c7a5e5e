-- The superclass is there, and so are the superinterfaces.
use Rattle.std.proofs.Common.{sym, subst}
use Rattle.std.specs.Prelude.{option_to_list}
use Rattle.jm_linker.specs.Orders.{AreThere}
use Rattle.jm_linker.proofs.AboveLaws.{there_left, there_right}
use Rattle.jm_linker.proofs.tables.above_of.Goals as goal

pub numbers_of-requires : goal.numbers_of-requires
numbers_of-requires c =
    let class = c.args.class.now in
    subst (AreThere c.args.classes.now.program.now) (sym c.superclass_of.ensures)
    (there_left c.args.classes.now.program.now (option_to_list class.superclass) class.interfaces c.requires)

pub numbers_of-requires-2 : goal.numbers_of-requires-2
numbers_of-requires-2 c =
    let class = c.args.class.now in
    subst (AreThere c.args.classes.now.program.now) (sym c.as_slice.ensures)
    (there_right c.args.classes.now.program.now (option_to_list class.superclass) class.interfaces c.requires)
