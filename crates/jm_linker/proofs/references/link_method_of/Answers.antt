-- The method that is there has a selector.
use Rattle.jm_linker.proofs.SelectedLaws.{found_selector}
use Rattle.jm_linker.proofs.references.link_method_of.Goals as goal

pub known_selector-requires : goal.known_selector-requires
known_selector-requires c =
    let m = c.in_ok-sought.sought.method.now in
    found_selector c.args.classes.now.program.now c.args.name.now m.name m.descriptor c.in_ok-found.found c.in_ok-found.ensures.found
