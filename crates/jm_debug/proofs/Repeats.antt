-- An event, so many times.
use Rattle.std.proofs.Common.{◌≡◌, ℕ, zero, suc, refl}
use Rattle.jm_world.specs.World.{World}
use Rattle.jm_world.specs.Run.{after}
use Rattle.jm_world.specs.declared.event.Event.{Event}
use Rattle.jm_debug.specs.Session.{more}
use Rattle.jm_debug.specs.Answering.{repeated}

-- the first one and some more
pub repeated_more : (n : ℕ) (e : Event) (w : World) → repeated (suc n) e w ≡ (more n e (after w e)).world
repeated_more zero e w = refl
repeated_more (suc n) e w = repeated_more n e (after w e).world
