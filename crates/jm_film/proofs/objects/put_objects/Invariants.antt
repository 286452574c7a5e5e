-- What was put, and what the objects that are left make of it.
use Rattle.std.proofs.Common.{◌≡◌, ◌++◌, drop}
use Rattle.std.specs.Prelude.{map}
use Rattle.jm_film.specs.Shown.{object_section}
use Rattle.jm_film.proofs.objects.put_objects.Given as goal

abbrev pub invariant-loop-index : goal.invariant-loop-index
invariant-loop-index g l = l.view.items ++ map (object_section l.objects.program) (drop l.index l.objects.objects)
    ≡ l.initial.view.items ++ map (object_section l.objects.program) l.objects.objects
