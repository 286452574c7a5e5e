-- What is left decides.
use Rattle.std.proofs.Common.{◌≡◌, drop}
use Rattle.jm_world.specs.Classes.{class_named}
use Rattle.jm_world.specs.Loads.{interface_of_kind, first_of_all}
use Rattle.jm_linker.proofs.parents.check_parents.Given as goal

abbrev pub invariant-loop-name : goal.invariant-loop-name
invariant-loop-name l =
    first_of_all (λ name. interface_of_kind name (class_named l.classes.program.now name)) l.interfaces
    ≡ first_of_all (λ name. interface_of_kind name (class_named l.classes.program.now name)) (drop l.name-index l.interfaces)
