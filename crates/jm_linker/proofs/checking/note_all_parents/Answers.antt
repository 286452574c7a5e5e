-- The superclass of one more, and behind it the superinterfaces; and then all are noted.
use Rattle.std.proofs.Common.{ℕ, List, ◌++◌, ap, append_assoc, ◌∙◌, arith}
use Rattle.jm_world.specs.Classes.{class_named}
use Rattle.jm_world.specs.Loads.{interface_of_kind, superclass_refusal}
use Rattle.jm_linker.specs.declared.finding.Site.TheVariants as site
use Rattle.jm_linker.specs.Findings.{each, found, parents_found}
use Rattle.jm_linker.proofs.FindingLaws.{each_ends, each_goes_on}
use Rattle.jm_linker.proofs.checking.note_all_parents.Goals as goal

pub loop-number-preserved : goal.loop-number-preserved
loop-number-preserved c =
    let program = c.args.classes.now.program.now in
    let i = c.loop-number.number in
    let now = c.loop-number.findings.items in
    let class = c.parts-class.result.now in
    let tell = λ (k : ℕ) (name : List ℕ). found (site.Interface i k) (interface_of_kind name (class_named program name)) in
    let superclass = superclass_refusal program class class.superclass in
    each_goes_on (parents_found program) program i c.class-item.result now (c.note_interfaces.new.findings.items) (c.args.findings.now.items ++ each (parents_found program) 0 program)
    (omega arith) c.class-item.is
    (c.in_ok-note_interfaces.ensures
    ∙ ap (λ names. c.note.new.findings.items ++ each tell 0 names) c.as_slice-interfaces.ensures
    ∙ ap (λ t. t ++ each tell 0 class.interfaces) (c.in_ok-note.ensures superclass c.check_superclass-answer.ensures)
    ∙ append_assoc now (found (site.Superclass i) superclass) (each tell 0 class.interfaces)
    ∙ ap (λ k. now ++ parents_found program i k) c.parts-class.ensures.parts)
    c.loop-number.invariant

pub returns : goal.returns
returns c =
    let program = c.args.classes.now.program.now in
    each_ends (parents_found program) program c.loop-number.number (c.loop-number.findings.items) (c.args.findings.now.items ++ each (parents_found program) 0 program) (omega arith) c.loop-number.invariant
