-- What contracts see of a state.
use Rattle.std.specs.Prelude.{ℕ, List, Option}
use Rattle.jm_values.specs.declared.value.Value.{Value}
use Rattle.jm_world.specs.declared.class_state.ClassState.{ClassState}
use Rattle.jm_world.specs.declared.stop.Stop.{Stop}
use Rattle.jm_monitors.specs.HeldMonitors.{HeldMonitor}
use Rattle.jm_state.specs.declared.thread.Thread.{Thread}
use Rattle.jm_state.specs.declared.state.State.{State}

-- all of a state but its heap; literals are the places of their Strings, and those are started whose
-- objects have these serials
pub record StateView : Type 0 where
  pub threads : List Thread
  pub started : List ℕ
  pub live : ℕ
  pub statics : List Value
  pub classes : List ClassState
  pub literals : List ℕ
  pub monitors : List HeldMonitor
  pub output : List ℕ
  pub stop : Option Stop

abbrev pub view_of : {H : Type 0} → State H → StateView
view_of s = record {
  threads = s.threads.items;
  started = s.started.keys;
  live = s.live;
  statics = s.statics.items;
  classes = s.classes;
  literals = s.literals.items;
  monitors = s.monitors;
  output = s.output.items;
  stop = s.stop;
}
