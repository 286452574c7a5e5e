-- The classes so far are linked, and what is left decides.
use Rattle.std.proofs.Common.{◌≡◌, take, drop}
use Rattle.std.specs.Prelude.{map}
use Rattle.std.specs.List.{AllByRecursion}
use Rattle.jm_program.specs.declared.class.ClassParts.{ClassParts}
use Rattle.jm_world.specs.Loads.{method_code_refusal, first_of_all}
use Rattle.jm_linked.specs.Links.{coded_from, place_of}
use Rattle.jm_linker.specs.LinkedMethods.{LinksAlone}
use Rattle.jm_linker.proofs.code.link_classes.Given as goal

abbrev pub invariant-loop-index : goal.invariant-loop-index
invariant-loop-index l =
    (first_of_all (λ (c : ClassParts). first_of_all (method_code_refusal l.classes.program.now) c.methods) l.classes.program.now
    ≡ first_of_all (λ (c : ClassParts). first_of_all (method_code_refusal l.classes.program.now) c.methods) (drop l.index l.classes.program.now))
    × (map place_of l.linked.items ≡ coded_from 0 (take l.index l.classes.program.now))
    × AllByRecursion (LinksAlone l.classes.program.now) l.linked.items
