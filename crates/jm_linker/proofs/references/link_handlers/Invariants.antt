-- The rows so far are linked, and what is left decides.
use Rattle.std.proofs.Common.{◌≡◌, take, drop}
use Rattle.std.specs.Prelude.{map}
use Rattle.std.specs.List.{AllByRecursion}
use Rattle.jm_world.specs.Loads.{catch_refusal, first_of_all}
use Rattle.jm_linked.specs.Links.{CatchesClass, handler_in}
use Rattle.jm_linker.proofs.references.link_handlers.Given as goal

abbrev pub invariant-loop-handler : goal.invariant-loop-handler
invariant-loop-handler l =
    (first_of_all (catch_refusal l.classes.program.now) l.handlers ≡ first_of_all (catch_refusal l.classes.program.now) (drop l.handler-index l.handlers))
    × (map (handler_in l.classes.program.now) l.linked.items ≡ take l.handler-index l.handlers)
    × AllByRecursion (CatchesClass l.classes.program.now) l.linked.items
