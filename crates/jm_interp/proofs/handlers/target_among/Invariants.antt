-- What is left decides, and each handler of it names a class.
use Rattle.std.proofs.Common.{◌≡◌, drop}
use Rattle.jm_world.specs.World.{World}
use Rattle.jm_state.specs.Parts.{named_type}
use Rattle.jm_interp.specs.Catching.{target_among}
use Rattle.jm_interp.proofs.handlers.target_among.Given as goal

abbrev pub invariant-loop-handler : goal.invariant-loop-handler
invariant-loop-handler l = (w : World) → w.program ≡ l.linked.program
    → target_among w l.linked.program l.index (named_type l.linked.program l.thrown) l.handlers
    ≡ target_among w l.linked.program l.index (named_type l.linked.program l.thrown) (drop l.handler-index l.handlers)
