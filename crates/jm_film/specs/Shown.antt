-- What a film shows of a world: sections, whose lines are the debugger's.
use Rattle.std.specs.Prelude.{ℕ, ◌+◌, List, [], ◌∷◌, ◌++◌, Option, Some, None, codes, length, map, Bool, true, false}
use Rattle.std.specs.List.{flat_map}
use Rattle.std.specs.Fmt.{decimal}
use Rattle.jm_program.specs.JasminUnits.{name_text}
use Rattle.jm_program.specs.declared.class.ClassParts.{ClassParts}
use Rattle.jm_world.specs.Classes.{system_class}
use Rattle.jm_world.specs.Objects.{Object, size}
use Rattle.jm_world.specs.Frames.{Frame}
use Rattle.jm_world.specs.World.{World, Thread, Ending, running, returned, ended_by, reach, reach_cells}
use Rattle.jm_world.specs.World as world
use Rattle.jm_machine.specs.ReachedObjects.{reached_objects}
use Rattle.jm_debug.specs.Texts.{reference_text, object_type_text, frame_text}
use Rattle.jm_debug.specs.Views.{Lines, lines_from, locals_of_frame, stack_of_frame, end_lines, static_lines, part_lines, heap_text, monitor_lines}
use Rattle.jm_debug.specs.Session.{ended}
use Rattle.jm_page.specs.Sections.{Part}
use Rattle.jm_blocked_threads.specs.Asked.{Need, entering, initializing, asked_by_top}
use Rattle.jm_blocked_threads.specs.Blocked.{is_waiting}

-- a section of some lines, each ended by a line feed; and one only if there are any
abbrev pub section : List ℕ → Lines → Part
section key lines = record { key = key; text = flat_map ended lines }

abbrev pub section_of : List ℕ → Lines → List Part
section_of key [] = []
section_of key (l ∷ ls) = section key (l ∷ ls) ∷ []

-- the keys of what a thread has, and of what a frame of it has, which is counted from the bottom
abbrev pub thread_key : List ℕ → ℕ → List ℕ
thread_key letter n = letter ++ codes " " ++ decimal n

abbrev pub frame_key : List ℕ → ℕ → ℕ → List ℕ
frame_key letter n height = thread_key letter n ++ codes " " ++ decimal height

-- ---- frames

abbrev pub place_lines : List ClassParts → Frame → Lines
place_lines program f = frame_text program f ∷ []

abbrev pub frame_sections : List ClassParts → ℕ → ℕ → Frame → List Part
frame_sections program n height f =
    section_of (frame_key (codes "w") n height) (place_lines program f)
    ++ section_of (frame_key (codes "l") n height) (locals_of_frame f)
    ++ section_of (frame_key (codes "s") n height) (stack_of_frame f)

-- the top one first: it has as many below it as follow
abbrev pub frames_sections : List ClassParts → ℕ → List Frame → List Part
frames_sections program n [] = []
frames_sections program n (f ∷ fs) = frame_sections program n (length fs) f ++ frames_sections program n fs

-- ---- what a blocked thread waits for

abbrev pub need_lines : Need → Lines
need_lines (entering k) = reference_text k ∷ []
need_lines (initializing class) = (codes "class " ++ name_text class) ∷ []

-- as far as it is told
abbrev pub asked_lines : Option Need → Lines
asked_lines None = []
asked_lines (Some need) = need_lines need

-- a section that stands also where it has no lines
abbrev pub waits_sections : List ClassParts → Bool → ℕ → List Frame → List Part
waits_sections program true n frames = section (thread_key (codes "b") n) (asked_lines (asked_by_top program frames)) ∷ []
waits_sections program false n frames = []

-- ---- threads

abbrev pub pending_sections : ℕ → Option ℕ → List Part
pending_sections n None = []
pending_sections n (Some k) = section (thread_key (codes "p") n) (reference_text k ∷ []) ∷ []

abbrev pub running_sections : List ClassParts → Bool → ℕ → Thread → List Part
running_sections program waits n t = pending_sections n t.pending ++ waits_sections program waits n t.frames ++ frames_sections program n t.frames

abbrev pub end_sections : ℕ → Option (List ℕ) → List Part
end_sections n class = section (thread_key (codes "e") n) (end_lines class) ∷ []

abbrev pub thread_sections : List ClassParts → Bool → ℕ → Thread → Ending → List Part
thread_sections program waits n t running = running_sections program waits n t
thread_sections program waits n t returned = end_sections n None
thread_sections program waits n t (ended_by class) = end_sections n (Some class)

-- from a number on
abbrev pub threads_sections : List ClassParts → List ℕ → ℕ → List Thread → List Part
threads_sections program waiting n [] = []
threads_sections program waiting n (t ∷ ts) =
    thread_sections program (is_waiting waiting n) n t t.ending ++ threads_sections program waiting (n + 1) ts

-- ---- static fields, the heap and the monitors

abbrev pub statics_section : List world.Static → List ℕ → List Part
statics_section statics class = section_of (codes "c " ++ name_text class) (lines_from (static_lines class) 0 statics)

abbrev pub object_section_lines : List ClassParts → Object → Lines
object_section_lines program o = (object_type_text o.type ++ codes " " ++ decimal (size o) ++ codes " cells") ∷ part_lines program o.type o.values

abbrev pub object_section : List ClassParts → ℕ × Object → Part
object_section program o = section (reference_text o.0) (object_section_lines program o.1)

abbrev pub class_name : ClassParts → List ℕ
class_name c = c.name

abbrev pub heap_section : World → Part
heap_section w = section (codes "h") (heap_text (length (reach w)) (reach_cells w) w.limit ∷ [])

-- what is shown of a world in which some threads were blocked at their last event
unfoldable pub view : World → List ℕ → List Part
view w waiting =
    threads_sections w.program waiting 1 w.threads
    ++ section_of (codes "m") (monitor_lines w)
    ++ flat_map (statics_section w.statics) (system_class ∷ map class_name w.program)
    ++ heap_section w ∷ map (object_section w.program) (reached_objects w)
