-- What was put, and what the classes that are left make of it.
use Rattle.std.proofs.Common.{◌≡◌, ◌++◌, drop}
use Rattle.std.specs.Prelude.{map}
use Rattle.std.specs.List.{flat_map}
use Rattle.jm_film.specs.Shown.{class_name, statics_section}
use Rattle.jm_film.proofs.statics.put_all_declared.Given as goal

abbrev pub invariant-loop-class : goal.invariant-loop-class
invariant-loop-class g l = l.view.items ++ flat_map (statics_section l.statics) (map class_name (drop l.class-index l.classes))
    ≡ l.initial.view.items ++ flat_map (statics_section l.statics) (map class_name l.classes)
