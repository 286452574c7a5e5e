-- One more is noted, and then all are.
use Rattle.std.proofs.Common.{ℕ, List, ◌++◌, arith}
use Rattle.jm_world.specs.Classes.{class_named}
use Rattle.jm_world.specs.Loads.{interface_of_kind}
use Rattle.jm_linker.specs.declared.finding.Site.TheVariants as site
use Rattle.jm_linker.specs.Findings.{each, found}
use Rattle.jm_linker.proofs.FindingLaws.{each_ends, each_goes_on}
use Rattle.jm_linker.proofs.checking.note_interfaces.Goals as goal

pub loop-interface-preserved : goal.loop-interface-preserved
loop-interface-preserved c =
    let tell = λ (i : ℕ) (name : List ℕ). found (site.Interface c.args.class i) (interface_of_kind name (class_named c.args.classes.now.program.now name)) in
    let xs = c.args.names.now in
    let x = c.index-names-interface.result in
    each_goes_on tell xs c.loop-interface.interface x (c.loop-interface.findings.items) (c.note.new.findings.items) (c.args.findings.now.items ++ each tell 0 xs)
    (omega arith) c.index-names-interface.is (c.in_ok-note.ensures (interface_of_kind x (class_named c.args.classes.now.program.now x)) c.check_interface-answer.ensures) c.loop-interface.invariant

pub returns : goal.returns
returns c =
    let tell = λ (i : ℕ) (name : List ℕ). found (site.Interface c.args.class i) (interface_of_kind name (class_named c.args.classes.now.program.now name)) in
    let xs = c.args.names.now in
    each_ends tell xs c.loop-interface.interface (c.loop-interface.findings.items) (c.args.findings.now.items ++ each tell 0 xs) (omega arith) c.loop-interface.invariant
