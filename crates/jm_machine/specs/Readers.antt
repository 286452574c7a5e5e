-- What readers tell, as the world has it.
use Rattle.std.specs.Prelude.{◌≡◌, ℕ, List, Option, Some, None, slice_get}
use Rattle.jm_program.specs.declared.class.ClassParts.{ClassParts}
use Rattle.jm_program.specs.declared.descriptor.ElementType.{ElementType}
use Rattle.jm_program.specs.declared.descriptor.ElementType.TheVariants as element
use Rattle.jm_values.specs.Shape.{Among}
use Rattle.jm_values.specs.declared.value.Value.{Value}
use Rattle.jm_values.specs.declared.value.Value.TheVariants as value
use Rattle.jm_world.specs.Classes.{MethodName, name_of_method, method_named}
use Rattle.jm_world.specs.Frames.{Frame, method_frame, initialization_frame, entry_frame}
use Rattle.jm_world.specs.Types.{ObjectType, instance_of, array_of}
use Rattle.jm_world.specs.Objects.{FieldName}
use Rattle.jm_world.specs.World.{World, Thread, Static, Monitor, object_at, reach}
use Rattle.jm_machine.specs.MethodFrames.{MethodFrameView}
use Rattle.jm_machine.specs.Seen.{ObjectView}
use Rattle.jm_machine.specs.declared.frame.WorldFrame.{WorldFrame}
use Rattle.jm_machine.specs.declared.frame.WorldFrame.TheVariants.{Method, Initialization, Entry}
use Rattle.jm_machine.specs.declared.monitor.WorldMonitor.{WorldMonitor}
use Rattle.jm_machine.specs.declared.object.ElementKind.{ElementKind}
use Rattle.jm_machine.specs.declared.object.ElementKind.TheVariants.{Base, Class}
use Rattle.jm_machine.specs.declared.object.ObjectKind.{ObjectKind}
use Rattle.jm_machine.specs.declared.object.ObjectKind.TheVariants.{Instance, Array}
use Rattle.jm_machine.specs.declared.object.WorldField.{WorldField}
use Rattle.jm_machine.specs.declared.statics.WorldStatic.{WorldStatic}
use Rattle.jm_machine.specs.declared.value.WorldValue.{WorldValue}
use Rattle.jm_machine.specs.declared.value.WorldValue.TheVariants.{Int, Long, Null, Ref}

-- a value
abbrev pub model_value : WorldValue → Value
model_value (Int n) = value.Int n
model_value (Long n) = value.Long n
model_value Null = value.Null
model_value (Ref k) = value.Ref k

-- a frame
abbrev pub name_of_frame : MethodFrameView → MethodName
name_of_frame f = name_of_method (record { class = f.class; method = f.method })

abbrev pub model_frame : {H : Type 0} → WorldFrame H → Frame
model_frame (Method f) = method_frame (name_of_frame f) f.activation f.monitor
model_frame (Initialization class stage) = initialization_frame class.now.name stage
model_frame Entry = entry_frame

-- its method is the one that the program has under its name
abbrev pub IsOfProgram : {H : Type 0} → List ClassParts → WorldFrame H → Type 0
IsOfProgram program (Method f) = method_named program (name_of_frame f) ≡ Some f.method
IsOfProgram program (Initialization class stage) = Unit {0}
IsOfProgram program Entry = Unit {0}

-- the frame of a thread that is so many below the top
abbrev pub frame_at : Option Thread → ℕ → Option Frame
frame_at None depth = None
frame_at (Some t) depth = slice_get t.frames depth

-- the pending exception of a thread
abbrev pub pending_of : Option Thread → Option ℕ
pending_of None = None
pending_of (Some t) = t.pending

-- the type of an object
abbrev pub model_element : ElementKind → ElementType
model_element (Base b) = element.Base b
model_element (Class name) = element.Class name.now

abbrev pub model_type : ObjectKind → ObjectType
model_type (Instance class) = instance_of class.now
model_type (Array dimensions e) = array_of (record { dimensions = dimensions; element = model_element e })

-- the object of a number that the world reaches, beside its program; none of a number that it does not
abbrev pub TellsObject : World → ℕ → Option ObjectView → Type 0
TellsObject w k None = Among k (reach w) → ⊥
TellsObject w k (Some o) = Among k (reach w) × (object_at w k ≡ Some o.object) × (o.program ≡ w.program)

-- a field of an object
abbrev pub model_field : WorldField → FieldName × Value
model_field f = (record { class = f.class.now; name = f.name.now; type = f.descriptor.now }, model_value f.value)

-- a static field
abbrev pub model_static : WorldStatic → Static
model_static s = record { field = record { class = s.class.now; name = s.name.now; type = s.descriptor.now }; value = model_value s.value }

-- a monitor that is held
abbrev pub model_monitor : WorldMonitor → Monitor
model_monitor m = record { object = m.object; owner = m.owner; count = m.count }
