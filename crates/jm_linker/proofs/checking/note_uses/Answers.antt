-- What each of them notes, one behind the other.
use Rattle.std.proofs.Common.{◌++◌, ap, not, ◌∙◌}
use Rattle.jm_world.specs.Loading.{main_in}
use Rattle.jm_world.specs.Loads.{is_main, no_main, when}
use Rattle.jm_linker.specs.Findings.{cycle_found, each, main_found, methods_found}
use Rattle.jm_linker.proofs.checking.note_uses.Goals as goal

pub returns : goal.returns
returns c =
    let program = c.args.classes.now.program.now in
    c.in_ok-note_all_methods.ensures
    ∙ ap (λ t. t ++ each (methods_found program) 0 program) (c.in_ok-note.ensures (when (not (is_main (main_in program))) no_main) c.check_main.ensures
    ∙ ap (λ t. t ++ main_found program) (c.in_ok-note_cycles.ensures
    ∙ ap (λ t. t ++ each (cycle_found program) 0 program) c.in_ok-note_all_parents.ensures))
