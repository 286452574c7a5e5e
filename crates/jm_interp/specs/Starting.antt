-- A thread that is started: it is behind the others, and has not begun (JVMS 2.5.1).
use Rattle.std.specs.Prelude.{◌≡◌, ◌+◌, ◌++◌, ◌||◌, ℕ, [], ◌∷◌, Some, None, nat_eq}
use Rattle.jm_state.specs.Runnable.{is_among}
use Rattle.jm_state.specs.View.{view_of}
use Rattle.jm_state.specs.declared.state.State.{State}
use Rattle.jm_state.specs.declared.thread.StackFrame.TheVariants.{Entry}
use Rattle.jm_state.specs.declared.thread.Thread as held
use Rattle.jm_interp.specs.Standing.{Stands, running}

-- the thread of the object at a place, with its serial, has not begun
abbrev pub IsNew : held.Thread → ℕ → ℕ → Type 0
IsNew t place serial = Stands t (Entry ∷ []) (running (record { place = Some place; serial = Some serial }) None)

-- the state has it as its last one, and its serial is started
pub record Added {H : Type 0} (old new : State H) (place serial : ℕ) : Type 0 where
  pub thread : held.Thread
  pub is_new : IsNew thread place serial
  pub threads : new.threads.items ≡ old.threads.items ++ thread ∷ []
  pub live : new.live ≡ old.live + 1
  pub started : (k : ℕ) → is_among k new.started.keys ≡ (nat_eq serial k || is_among k old.started.keys)
  pub rest : new ≡ record old { threads = new.threads; started = new.started; live = new.live }

-- nothing is seen of a change
pub record LooksAlike {H : Type 0} (old new : State H) : Type 0 where
  pub view : view_of new ≡ view_of old
  pub heap : new.heap ≡ old.heap
