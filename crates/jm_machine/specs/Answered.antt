-- What comes of an event.
use Rattle.std.specs.Prelude.{◌≡◌, ◌⊎◌, ℕ, List, Bool, true, None, Some, slice_get, take}
use Rattle.jm_world.specs.Matches.{Parts, Matches}
use Rattle.jm_world.specs.Run.{After, reply, run_from}
use Rattle.jm_world.specs.World.{World}
use Rattle.jm_world.specs.declared.event.Event.{Event}
use Rattle.jm_world.specs.declared.event.Event.TheVariants.{Step, Minor, Full}
use Rattle.jm_world.specs.declared.reply.ReplyKind.{ReplyKind}
use Rattle.jm_heap.specs.declared.class_id.ClassId.{ClassId}
use Rattle.jm_machine.specs.Threads.{is_live}

-- the parts are those of the model's next world, and the kind is that of its reply
pub record IsAnswered (new : Parts ClassId) (kind : ReplyKind) (a : After) : Type 0 where
  pub world : Matches new a.world
  pub reply : a.reply ≡ reply kind a.world

-- whether there is something to do for an event: a step's thread is there and has not ended
abbrev pub finds_work : World → Event → Bool
finds_work w (Step thread) = is_live w thread
finds_work w Minor = true
finds_work w Full = true

-- an event that may want memory: the world has not stopped, and finds something to do; any other event changes nothing
pub record MayWantMemory (w : World) (e : Event) : Type 0 where
  pub going : w.stop ≡ None
  pub work : finds_work w e ≡ true

-- so the event of a number, from 0, of some that are made from a world on
abbrev pub MayWantMemoryAt : World → List Event → ℕ → Type 0
MayWantMemoryAt w events made = (e : Event) × (slice_get events made ≡ Some e) × MayWantMemory (run_from w (take made events)) e

-- of events that were ended for want of memory so many were made: none, where their list of replies had no room, or those before one that
-- may want memory
abbrev pub EndsForMemory : World → List Event → ℕ → Type 0
EndsForMemory w events made = (made ≡ 0) ⊎ MayWantMemoryAt w events made
