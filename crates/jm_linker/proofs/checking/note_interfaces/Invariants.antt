-- What was noted, and what is left to be noted.
use Rattle.std.proofs.Common.{◌≡◌, ℕ, List, ◌++◌, drop}
use Rattle.jm_world.specs.Classes.{class_named}
use Rattle.jm_world.specs.Loads.{interface_of_kind}
use Rattle.jm_linker.specs.declared.finding.Site.TheVariants as site
use Rattle.jm_linker.specs.Findings.{each, found}
use Rattle.jm_linker.proofs.checking.note_interfaces.Given as goal

abbrev pub invariant-loop-interface : goal.invariant-loop-interface
invariant-loop-interface l =
    let tell = λ (i : ℕ) (name : List ℕ). found (site.Interface l.class i) (interface_of_kind name (class_named l.classes.program.now name)) in
    l.findings.items ++ each tell l.interface (drop l.interface l.names) ≡ l.initial.findings.items ++ each tell 0 l.names
