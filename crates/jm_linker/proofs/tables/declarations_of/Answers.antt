-- Each class is there, and so are those right above it.
use Rattle.std.proofs.Common.{sym, arith}
use Rattle.jm_linked.specs.Links.{class_numbered}
use Rattle.jm_linker.proofs.AboveLaws.{all_there, not_none, numbered_there}
use Rattle.jm_linker.proofs.tables.declarations_of.Goals as goal

pub unreachable-requires : goal.unreachable-requires
unreachable-requires c =
    let program = c.args.classes.now.program.now in
    let number = c.loop-number.number in
    let less = c.loop-number-test.true in
    let count = c.requires.count in
    not_none (class_numbered program number) (numbered_there program number (omega (arith, less, count))) (sym c.in_default.ensures)

pub above_of-requires : goal.above_of-requires
above_of-requires c = all_there c.args.classes.now.program.now c.requires.loads c.loop-number.number c.in-Some.class.now (sym c.in-Some.ensures)
