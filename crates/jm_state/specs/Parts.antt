-- The parts of a machine that a state stands for, each thing by its name.
use Rattle.std.specs.Prelude.{ℕ, List, [], map, reverse, Option, Some, None, slice_get}
use Rattle.jm_program.specs.declared.class.ClassParts.{ClassParts}
use Rattle.jm_program.specs.declared.descriptor.ElementType.{ElementType}
use Rattle.jm_program.specs.declared.descriptor.ElementType.TheVariants as type
use Rattle.jm_world.specs.Types.{ObjectType, instance_of, array_of}
use Rattle.jm_world.specs.Frames.{Frame, method_frame, initialization_frame, entry_frame}
use Rattle.jm_world.specs.World.{Thread, Monitor, Ending, running, returned, ended_by}
use Rattle.jm_values.specs.Content.{Content}
use Rattle.jm_world.specs.Loading.{first_statics, literal_texts}
use Rattle.jm_world.specs.Matches.{Parts}
use Rattle.jm_heap.specs.declared.class_id.ClassId.{ClassId}
use Rattle.jm_heap.specs.declared.class_id.ClassId.TheVariants.{Instance, Array}
use Rattle.jm_heap.specs.declared.class_id.Element.{Element}
use Rattle.jm_heap.specs.declared.class_id.Element.TheVariants.{Base, Class}
use Rattle.jm_linked.specs.Named.{named_statics, named_states, named_literals}
use Rattle.jm_linked.specs.Links.{LinkedView, class_name_of, name_of_number}
use Rattle.jm_state.specs.declared.thread.StackFrame.{StackFrame}
use Rattle.jm_state.specs.declared.thread.StackFrame.TheVariants.{Method, Initialization, Entry}
use Rattle.jm_state.specs.declared.thread.Ending as code
use Rattle.jm_state.specs.declared.thread.Ending.TheVariants.{Running, Returned, EndedBy}
use Rattle.jm_state.specs.declared.thread.Thread as held
use Rattle.jm_monitors.specs.HeldMonitors.{HeldMonitor}
use Rattle.jm_state.specs.declared.state.State.{State}
use Rattle.jm_state.specs.Places.{HeldThread, held_thread}
use Rattle.jm_state.specs.View.{StateView, view_of}

-- the class or the array type of a mark of the heap
abbrev pub element_named : List ClassParts → Element → ElementType
element_named program (Base b) = type.Base b
element_named program (Class n) = type.Class (class_name_of program n)

unfoldable pub named_type : List ClassParts → ClassId → ObjectType
named_type program (Instance n) = instance_of (class_name_of program n)
named_type program (Array component) = array_of (record { dimensions = component.dimensions; element = element_named program component.element })

-- the name of a class of the program
abbrev pub name_in_program : Option ClassParts → List ℕ
name_in_program None = []
name_in_program (Some c) = c.name

unfoldable pub program_class_name : List ClassParts → ℕ → List ℕ
program_class_name program n = name_in_program (slice_get program n)

-- a frame, with its method by name
abbrev pub frame_part : LinkedView → StackFrame → Frame
frame_part l (Method f) = method_frame (name_of_number l f.method) f.activation f.monitor
frame_part l (Initialization class stage) = initialization_frame (program_class_name l.program class) stage
frame_part l Entry = entry_frame

abbrev pub ending_part : List ClassParts → code.Ending → Ending
ending_part program Running = running
ending_part program Returned = returned
ending_part program (EndedBy n) = ended_by (class_name_of program n)

-- the frames with the top first
abbrev pub frames_part : LinkedView → List StackFrame → List Frame
frames_part l frames = map (frame_part l) (reverse frames)

-- a thread's object is told by its place while the thread runs, and by its serial after
abbrev pub told_object : code.Ending → Option ℕ → Option ℕ → Option ℕ
told_object Running object serial = object
told_object Returned object serial = serial
told_object (EndedBy n) object serial = serial

-- a thread, from its frames from the top
abbrev pub part_of_held : LinkedView → HeldThread → Thread
part_of_held l t = record {
  object = told_object t.ending t.object t.serial;
  frames = map
      (frame_part l) t.frames;
  pending = t.pending;
  ending = ending_part l.program t.ending;
}

abbrev pub thread_part : LinkedView → held.Thread → Thread
thread_part l t = part_of_held l (held_thread t)

abbrev pub monitor_part : HeldMonitor → Monitor
monitor_part m = record { object = m.place; owner = m.owner; count = m.count }

-- the parts of a machine that a state stands for beside a heap of this content
unfoldable pub parts : LinkedView → Content ClassId → StateView → Parts ClassId
parts l content s = record {
  program = l.program;
  named = named_type l.program;
  content = content;
  literals = named_literals (literal_texts l.program) s.literals;
  statics = named_statics (first_statics l.program) s.statics;
  classes = named_states l.program s.classes;
  monitors = map monitor_part s.monitors;
  threads = map (thread_part l) s.threads;
  monitor_serials = map (λ (m : HeldMonitor). m.serial) s.monitors;
  thread_serials = map (λ (t : held.Thread). t.serial) s.threads;
  output = s.output;
  stop = s.stop;
}

abbrev pub state_parts : {H : Type 0} → (H → Content ClassId) → LinkedView → State H → Parts ClassId
state_parts content l s = parts l (content s.heap) (view_of s)
