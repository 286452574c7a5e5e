-- A class of the program is found by its name; ranks say that it is not above itself.
use Rattle.std.proofs.Common.{sym, ap, ◌∙◌, arith}
use Rattle.jm_world.specs.Loads.{cycle_refusal}
use Rattle.jm_linker.proofs.CycleLaws.{found_by_its_name}
use Rattle.jm_linker.proofs.RankLaws.{over_all}
use Rattle.jm_linker.proofs.Reasons.{first_after}
use Rattle.jm_linker.proofs.cycles.check_cycles.Goals as goal

pub check_cycle-requires : goal.check_cycle-requires
check_cycle-requires c =
    found_by_its_name c.args.classes.now.program.now c.loop-class.class-index c.class-item.result c.parts-class.result.now (omega arith)
    c.class-item.is c.parts-class.ensures.parts

pub loop-class-preserved-then-is_over_parents : goal.loop-class-preserved-then-is_over_parents
loop-class-preserved-then-is_over_parents c =
    let program = c.args.classes.now.program.now in
    let none = over_all program c.as_slice-by_number.result.now c.parts-class.result.now c.are_ranks-are_ranks.result c.is_over_parents.result
    c.are_ranks-are_ranks.ensures c.if-are_ranks.true c.is_over_parents.ensures c.if-is_over_parents.true in
    first_after (cycle_refusal program) program c.loop-class.class-index c.class-item.result (omega arith) c.class-item.is
    (ap (cycle_refusal program) (sym c.parts-class.ensures.parts) ∙ none) c.loop-class.invariant
