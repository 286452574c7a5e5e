-- One more is noted, or ranks say that it is not above itself; and then all are.
use Rattle.std.proofs.Common.{◌++◌, append-nil, ap, sym, ◌∙◌, arith}
use Rattle.jm_world.specs.Loads.{cycle_refusal}
use Rattle.jm_linker.specs.declared.finding.Site.TheVariants as site
use Rattle.jm_linker.specs.Findings.{cycle_found, each, found}
use Rattle.jm_linker.proofs.CycleLaws.{found_by_its_name}
use Rattle.jm_linker.proofs.FindingLaws.{each_ends, each_goes_on}
use Rattle.jm_linker.proofs.RankLaws.{over_all}
use Rattle.jm_linker.proofs.checking.note_cycles.Goals as goal

pub check_cycle-requires : goal.check_cycle-requires
check_cycle-requires c =
    found_by_its_name c.args.classes.now.program.now c.loop-number.number c.class-item.result c.parts-class.result.now (omega arith)
    c.class-item.is c.parts-class.ensures.parts

pub loop-number-preserved-then-is_over_parents : goal.loop-number-preserved-then-is_over_parents
loop-number-preserved-then-is_over_parents c =
    let program = c.args.classes.now.program.now in
    let i = c.loop-number.number in
    let x = c.class-item.result in
    let now = c.loop-number.findings.items in
    let none = over_all program c.as_slice-by_number.result.now c.parts-class.result.now c.are_ranks-are_ranks.result c.is_over_parents.result
    c.are_ranks-are_ranks.ensures c.if-are_ranks.true c.is_over_parents.ensures c.if-is_over_parents.true in
    each_goes_on (cycle_found program) program i x now now (c.args.findings.now.items ++ each (cycle_found program) 0 program)
    (omega arith) c.class-item.is (sym (append-nil now) ∙ ap (λ r. now ++ found (site.Class i) r) (sym (ap (cycle_refusal program) (sym c.parts-class.ensures.parts) ∙ none))) c.loop-number.invariant

pub loop-number-preserved : goal.loop-number-preserved
loop-number-preserved c =
    let program = c.args.classes.now.program.now in
    let i = c.loop-number.number in
    let x = c.class-item.result in
    let now = c.loop-number.findings.items in
    each_goes_on (cycle_found program) program i x now (c.note.new.findings.items) (c.args.findings.now.items ++ each (cycle_found program) 0 program)
    (omega arith) c.class-item.is (c.in_ok-note.ensures (cycle_refusal program c.parts-class.result.now) c.check_cycle.ensures ∙ ap (λ k. now ++ cycle_found program i k) c.parts-class.ensures.parts) c.loop-number.invariant

pub returns : goal.returns
returns c =
    let program = c.args.classes.now.program.now in
    each_ends (cycle_found program) program c.loop-number.number (c.loop-number.findings.items) (c.args.findings.now.items ++ each (cycle_found program) 0 program) (omega arith) c.loop-number.invariant
