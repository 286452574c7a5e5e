-- Threads, statics, monitors and literals under other names of their references.
use Rattle.std.specs.Prelude.{ℕ, List, Option, option_map}
use Rattle.jm_values.specs.Shape.{Shape, pair_shape}
use Rattle.jm_values.specs.Rename.{value_shape}
use Rattle.jm_world.specs.Frames.{Frame, frames_shape, number_shape, optional_number_shape}
use Rattle.jm_world.specs.World.{Ending, running, returned, ended_by, Thread, Static, Monitor, Literal, held_shape, refs_thread}

-- an ended thread's object is no reference any more: it stays as its number
abbrev pub rename_object : (ℕ → ℕ) → Ending → Option ℕ → Option ℕ
rename_object f running object = option_map f object
rename_object f returned object = object
rename_object f (ended_by class) object = object

abbrev pub rename_thread : (ℕ → ℕ) → Thread → Thread
rename_thread f t = record {
  object = rename_object f t.ending t.object;
  frames = frames_shape.rename f t.frames;
  pending = optional_number_shape.rename f t.pending;
  ending = t.ending;
}

-- a thread with its references, and with those that it has without its object
abbrev pub running_with : Option ℕ × (Option ℕ × List Frame) → Thread
running_with p = record { object = p.0; frames = p.1.1; pending = p.1.0; ending = running }

abbrev pub ended_with : Ending → Option ℕ → Option ℕ × List Frame → Thread
ended_with e object p = record { object = object; frames = p.1; pending = p.0; ending = e }

abbrev pub refill_by : Ending → List ℕ → Thread → Thread
refill_by running ns t = running_with ((pair_shape optional_number_shape held_shape).refill ns (t.object, (t.pending, t.frames)))
refill_by returned ns t = ended_with returned t.object (held_shape.refill ns (t.pending, t.frames))
refill_by (ended_by class) ns t = ended_with (ended_by class) t.object (held_shape.refill ns (t.pending, t.frames))

abbrev pub refill_thread : List ℕ → Thread → Thread
refill_thread ns t = refill_by t.ending ns t

abbrev pub thread_shape : Shape Thread
thread_shape = record { rename = rename_thread; refs = refs_thread; refill = refill_thread }

abbrev pub static_shape : Shape Static
static_shape = record {
  rename = λ f s. record { field = s.field; value = value_shape.rename f s.value };
  refs = λ s. value_shape.refs s.value;
  refill = λ ns s. record { field = s.field; value = value_shape.refill ns s.value };
}

abbrev pub monitor_shape : Shape Monitor
monitor_shape = record {
  rename = λ f m. record { object = f m.object; owner = m.owner; count = m.count };
  refs = λ m. number_shape.refs m.object;
  refill = λ ns m. record { object = number_shape.refill ns m.object; owner = m.owner; count = m.count };
}

abbrev pub literal_shape : Shape Literal
literal_shape = record {
  rename = λ f l. record { units = l.units; string = f l.string };
  refs = λ l. number_shape.refs l.string;
  refill = λ ns l. record { units = l.units; string = number_shape.refill ns l.string };
}
