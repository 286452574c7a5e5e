-- The texts of values, types, places and frames. Names and types are written as in a line of Jasmin,
-- where a name is one word; references are numbers of objects.
use Rattle.std.specs.Prelude.{ℕ, List, [], ◌∷◌, ◌++◌, Option, Some, None, codes, nat_le, if◌then◌else◌}
use Rattle.std.specs.Fmt.{decimal, signed_decimal}
use Rattle.jm_program.specs.JasminUnits.{name_text}
use Rattle.jm_program.specs.JasminTypes.{type_line, method_line}
use Rattle.jm_program.specs.declared.class.ClassParts.{ClassParts}
use Rattle.jm_program.specs.declared.class.Method.{Method}
use Rattle.jm_program.specs.declared.code.LineNumber.{LineNumber}
use Rattle.jm_program.specs.declared.descriptor.MethodDescriptor.{MethodDescriptor}
use Rattle.jm_values.specs.declared.value.Value.{Value}
use Rattle.jm_values.specs.declared.value.Value.TheVariants.{Int, Long, Null, Ref}
use Rattle.jm_world.specs.Types.{ObjectType, instance_of, array_of, type_of_object}
use Rattle.jm_world.specs.Classes.{MethodName, method_named}
use Rattle.jm_world.specs.Frames.{Frame, method_frame, initialization_frame, entry_frame}
use Rattle.jm_world.specs.declared.stage.Stage.{Stage}
use Rattle.jm_world.specs.declared.stage.Stage.TheVariants.{Begin, Superclass, Initializer, End}
use Rattle.jm_world.specs.declared.reply.ReplyKind.{ReplyKind}
use Rattle.jm_world.specs.declared.reply.ReplyKind.TheVariants as kind
use Rattle.jm_debug.specs.declared.place.Place.{Place}

-- #K
unfoldable pub reference_text : ℕ → List ℕ
reference_text k = codes "#" ++ decimal k

-- VALUE
unfoldable pub value_text : Value → List ℕ
value_text (Int n) = codes "int " ++ signed_decimal n
value_text (Long n) = codes "long " ++ signed_decimal n
value_text Null = codes "null"
value_text (Ref k) = reference_text k

-- CLASS of an object: an array's is its descriptor
unfoldable pub object_type_text : ObjectType → List ℕ
object_type_text (instance_of class) = name_text class
object_type_text (array_of component) = type_line (type_of_object (array_of component))

-- a method of a class: CLASS.METHODDESC
abbrev pub method_place_text : List ℕ → List ℕ → MethodDescriptor → List ℕ
method_place_text class name descriptor = name_text class ++ codes "." ++ name_text name ++ method_line descriptor

-- PLACE
unfoldable pub place_text : Place → List ℕ
place_text p = method_place_text p.class p.method p.descriptor ++ codes ":" ++ decimal p.instruction

-- the line of an instruction (JVMS 4.7.12): that of the entry that begins last, but not behind it; of
-- entries that begin together, the last
abbrev pub best_of : ℕ → Option LineNumber → LineNumber → Option LineNumber
best_of at None l = if nat_le l.start at then Some l else None
best_of at (Some best) l = if nat_le l.start at then (if nat_le best.start l.start then Some l else Some best) else Some best

abbrev pub line_entry : ℕ → Option LineNumber → List LineNumber → Option LineNumber
line_entry at best [] = best
line_entry at best (l ∷ ls) = line_entry at (best_of at best l) ls

abbrev pub line_in : ℕ → Option Method → Option LineNumber
line_in at None = None
line_in at (Some m) = elim m.code [ None ↦ None | Some code ↦ line_entry at None code.lines ]

unfoldable pub line_text : Option LineNumber → List ℕ
line_text None = []
line_text (Some l) = codes " line " ++ decimal l.line

unfoldable pub stage_text : Stage → List ℕ
stage_text Begin = codes "begin"
stage_text Superclass = codes "super"
stage_text Initializer = codes "clinit"
stage_text End = codes "end"

-- an instruction of a method
abbrev pub place_in : MethodName → ℕ → Place
place_in m at = record { class = m.class; method = m.name; descriptor = m.descriptor; instruction = at }

-- where a frame stands
unfoldable pub frame_text : List ClassParts → Frame → List ℕ
frame_text program (method_frame m a monitor) = place_text (place_in m a.at) ++ line_text (line_in a.at (method_named program m))
frame_text program (initialization_frame class stage) = codes "init " ++ name_text class ++ codes " " ++ stage_text stage
frame_text program entry_frame = codes "entry"

unfoldable pub kind_text : ReplyKind → List ℕ
kind_text kind.Done = codes "done"
kind_text kind.Blocked = codes "blocked"
kind_text kind.Ended = codes "ended"
kind_text kind.None = codes "none"
kind_text kind.Stopped = codes "stopped"
