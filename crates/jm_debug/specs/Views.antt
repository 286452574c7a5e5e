-- What is shown of a world: lists of lines, and none where there is no such thing.
use Rattle.std.specs.Prelude.{ℕ, ◌+◌, List, [], ◌∷◌, ◌++◌, Option, Some, None, codes, map, length, reverse, slice_get, if◌then◌else◌}
use Rattle.std.specs.List.{zip}
use Rattle.std.specs.Option.{option_map, option_and_then}
use Rattle.std.specs.Fmt.{decimal}
use Rattle.jm_program.specs.Names.{same_text}
use Rattle.jm_program.specs.JasminUnits.{name_text}
use Rattle.jm_program.specs.JasminTypes.{type_line}
use Rattle.jm_program.specs.declared.class.ClassParts.{ClassParts}
use Rattle.jm_values.specs.Reach.{is_among}
use Rattle.jm_values.specs.declared.value.Value.{Value}
use Rattle.jm_world.specs.Types.{ObjectType, instance_of, array_of}
use Rattle.jm_world.specs.Classes.{class_named}
use Rattle.jm_world.specs.Objects.{Object, FieldName, size}
use Rattle.jm_world.specs.Frames.{Frame, method_frame, initialization_frame, entry_frame}
use Rattle.jm_world.specs.World.{World, Thread, Static, Monitor, Ending, running, returned, ended_by, thread_at, object_at, reach, reach_cells}
use Rattle.jm_machine.specs.Seen.{fields_of_type}
use Rattle.jm_debug.specs.Texts.{reference_text, value_text, object_type_text, frame_text}

abbrev pub Lines : Type 0
Lines = List (List ℕ)

-- the lines of each of some things by its number, from a number on
abbrev pub lines_from : {A : Type 0} → (ℕ → A → Lines) → ℕ → List A → Lines
lines_from lines_at number [] = []
lines_from lines_at number (x ∷ xs) = lines_at number x ++ lines_from lines_at (number + 1) xs

-- the lines of one of them, if there is one
abbrev pub lines_of : {A : Type 0} → (ℕ → A → Lines) → ℕ → Option A → Lines
lines_of lines_at number None = []
lines_of lines_at number (Some x) = lines_at number x

-- ---- where T

abbrev pub frame_lines : List ClassParts → ℕ → Frame → Lines
frame_lines program number f = (decimal number ++ codes " " ++ frame_text program f) ∷ []

abbrev pub pending_lines : Option ℕ → Lines
pending_lines None = []
pending_lines (Some k) = (codes "pending " ++ reference_text k) ∷ []

abbrev pub running_lines : List ClassParts → Thread → Lines
running_lines program t = pending_lines t.pending ++ lines_from (frame_lines program) 0 t.frames

-- of a thread that has ended, perhaps by an exception of a class
abbrev pub end_lines : Option (List ℕ) → Lines
end_lines None = codes "ended" ∷ []
end_lines (Some class) = (codes "ended by " ++ name_text class) ∷ []

abbrev pub thread_lines : List ClassParts → Thread → Ending → Lines
thread_lines program t running = running_lines program t
thread_lines program t returned = end_lines None
thread_lines program t (ended_by class) = end_lines (Some class)

-- a pending exception, and the frames with the top one first; how an ended thread has ended
unfoldable pub where_lines : World → ℕ → Option Lines
where_lines w number = option_map (λ t. thread_lines w.program t t.ending) (thread_at w number)

-- ---- locals T F, stack T F

-- the frame of a thread that is so many below the top
abbrev pub frame_of : World → ℕ → ℕ → Option Frame
frame_of w number depth = option_and_then (λ t. slice_get t.frames depth) (thread_at w number)

-- N = VALUE
abbrev pub value_lines : ℕ → Value → Lines
value_lines number v = (decimal number ++ codes " = " ++ value_text v) ∷ []

-- of a variable that is set
abbrev pub local_lines : ℕ → Option Value → Lines
local_lines number None = []
local_lines number (Some v) = value_lines number v

abbrev pub locals_of_frame : Frame → Lines
locals_of_frame (method_frame m a monitor) = lines_from local_lines 0 a.locals
locals_of_frame (initialization_frame class stage) = []
locals_of_frame entry_frame = []

-- from the bottom
abbrev pub stack_of_frame : Frame → Lines
stack_of_frame (method_frame m a monitor) = lines_from value_lines 0 (reverse a.stack)
stack_of_frame (initialization_frame class stage) = []
stack_of_frame entry_frame = []

unfoldable pub locals_lines : World → ℕ → ℕ → Option Lines
locals_lines w number depth = option_map locals_of_frame (frame_of w number depth)

unfoldable pub stack_lines : World → ℕ → ℕ → Option Lines
stack_lines w number depth = option_map stack_of_frame (frame_of w number depth)

-- ---- statics CLASS

unfoldable pub static_text : Static → List ℕ
static_text s = name_text s.field.name ++ codes " " ++ type_line s.field.type ++ codes " = " ++ value_text s.value

-- of a field of the class
abbrev pub static_lines : List ℕ → ℕ → Static → Lines
static_lines class number s = if same_text s.field.class class then static_text s ∷ [] else []

unfoldable pub statics_lines : World → List ℕ → Option Lines
statics_lines w class = option_map (λ c. lines_from (static_lines class) 0 w.statics) (class_named w.program class)

-- ---- object #K

unfoldable pub field_text : FieldName → Value → List ℕ
field_text f v = name_text f.class ++ codes "." ++ name_text f.name ++ codes " " ++ type_line f.type ++ codes " = " ++ value_text v

-- a field with its value
abbrev pub field_lines : ℕ → FieldName × Value → Lines
field_lines number f = field_text f.0 f.1 ∷ []

-- [I] = VALUE
abbrev pub element_lines : ℕ → Value → Lines
element_lines index v = (codes "[" ++ decimal index ++ codes "] = " ++ value_text v) ∷ []

abbrev pub part_lines : List ClassParts → ObjectType → List Value → Lines
part_lines program (instance_of class) values = lines_from field_lines 0 (zip (fields_of_type program (instance_of class)) values)
part_lines program (array_of component) values = lines_from element_lines 0 values

-- #K CLASS
unfoldable pub object_text : ℕ → Object → List ℕ
object_text k o = reference_text k ++ codes " " ++ object_type_text o.type

-- #K CLASS N cells
unfoldable pub header_text : ℕ → Object → List ℕ
header_text k o = object_text k o ++ codes " " ++ decimal (size o) ++ codes " cells"

unfoldable pub object_lines_of : List ClassParts → ℕ → Object → Lines
object_lines_of program k o = header_text k o ∷ part_lines program o.type o.values

-- the object, if it is reachable
unfoldable pub object_lines : World → ℕ → Option Lines
object_lines w k = if is_among k (reach w) then option_map (object_lines_of w.program k) (object_at w k) else None

-- ---- heap

-- an object of these numbers
abbrev pub reached_lines : List ℕ → ℕ → Object → Lines
reached_lines numbers k o = if is_among k numbers then object_text k o ∷ [] else []

-- how many objects are reachable, the cells that they take, and how many there may be
unfoldable pub heap_text : ℕ → ℕ → ℕ → List ℕ
heap_text objects cells limit = codes "reachable " ++ decimal objects ++ codes " objects " ++ decimal cells ++ codes " cells limit " ++ decimal limit

unfoldable pub heap_lines : World → Lines
heap_lines w = heap_text (length (reach w)) (reach_cells w) w.limit ∷ lines_from (reached_lines (reach w)) 0 w.heap

-- the line of an object that has its number with it
abbrev pub numbered_lines : ℕ → ℕ × Object → Lines
numbered_lines index o = object_text o.0 o.1 ∷ []

-- ---- monitors

unfoldable pub monitor_text : Monitor → List ℕ
monitor_text m = reference_text m.object ++ codes " t" ++ decimal m.owner ++ codes " x" ++ decimal m.count

unfoldable pub monitor_lines : World → Lines
monitor_lines w = map monitor_text w.monitors
