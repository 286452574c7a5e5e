-- What was put, part by part, is what is shown.
use Rattle.std.proofs.Common.{◌≡◌, ℕ, List, [], ◌∷◌, ◌++◌, ap, ◌∙◌}
use Rattle.std.specs.Prelude.{codes, map}
use Rattle.std.specs.List.{flat_map}
use Rattle.jm_world.specs.Classes.{system_class}
use Rattle.jm_world.specs.World.{World}
use Rattle.jm_machine.specs.ReachedObjects.{reached_objects}
use Rattle.jm_debug.specs.Views.{monitor_lines}
use Rattle.jm_page.specs.Sections.{Part}
use Rattle.jm_film.specs.Shown.{class_name, heap_section, object_section, section_of, statics_section, threads_sections, view}

pub view_put : (w : World) (waiting : List ℕ) (none threads monitors statics all : List Part) → none ≡ []
    → threads ≡ none ++ threads_sections w.program waiting 1 w.threads → monitors ≡ threads ++ section_of (codes "m") (monitor_lines w)
    → statics ≡ monitors ++ flat_map (statics_section w.statics) (system_class ∷ map class_name w.program)
    → all ≡ statics ++ heap_section w ∷ map (object_section w.program) (reached_objects w) → all ≡ view w waiting
unfolding view
view_put w waiting none threads monitors statics all empty first second third fourth =
    let a : threads ≡ threads_sections w.program waiting 1 w.threads = first ∙ ap (λ ps. ps ++ threads_sections w.program waiting 1 w.threads) empty in
    let b = second ∙ ap (λ ps. ps ++ section_of (codes "m") (monitor_lines w)) a in
    let d = third ∙ ap (λ ps. ps ++ flat_map (statics_section w.statics) (system_class ∷ map class_name w.program)) b in
    fourth ∙ ap (λ ps. ps ++ heap_section w ∷ map (object_section w.program) (reached_objects w)) d
