-- The initialization of a class, one stage at a time (JVMS 5.5).
use Rattle.std.specs.Prelude.{ℕ, List, [], ◌∷◌, Option, Some, None, Bool, true, false, ◌||◌, nat_eq, nat_lt, codes}
use Rattle.jm_program.specs.Flags.{is_static}
use Rattle.jm_program.specs.declared.class.ClassParts.{ClassParts}
use Rattle.jm_program.specs.declared.class.Field.{Field}
use Rattle.jm_program.specs.declared.class.Method.{Method}
use Rattle.jm_program.specs.declared.code.Code.{Code}
use Rattle.jm_program.specs.declared.constant.Constant.{Constant}
use Rattle.jm_program.specs.declared.constant.Constant.TheVariants as constant
use Rattle.jm_program.specs.declared.descriptor.MethodDescriptor.{MethodDescriptor}
use Rattle.jm_values.specs.declared.value.Value.{Value}
use Rattle.jm_values.specs.declared.value.Value.TheVariants.{Int, Long, Null, Ref}
use Rattle.jm_values.specs.declared.fault.TagFault.TheVariants.{WrongKind}
use Rattle.jm_world.specs.Types.{narrow}
use Rattle.jm_world.specs.Classes.{FoundMethod, class_named, method_in, name_of_method}
use Rattle.jm_world.specs.Frames.{Frame, method_frame, initialization_frame}
use Rattle.jm_world.specs.World.{World, Thread, Static, Literal, state_of, with_state, set_static_in, literal_in}
use Rattle.jm_world.specs.Next.{Next, goes, blocks, faults, throw}
use Rattle.jm_world.specs.Here.{with_frames, push_frame}
use Rattle.jm_world.specs.Invocation.{activation_of}
use Rattle.jm_world.specs.declared.class_state.ClassState.{ClassState}
use Rattle.jm_world.specs.declared.class_state.ClassState.TheVariants.{NotBegun, InProgress, Done, Failed}
use Rattle.jm_world.specs.declared.stage.Stage.{Stage}
use Rattle.jm_world.specs.declared.stage.Stage.TheVariants.{Begin, Superclass, Initializer, End}

-- the value of a ConstantValue (JVMS 4.7.2)
abbrev pub constant_value : List Literal → Constant → Value
constant_value literals (constant.Int n) = Int n
constant_value literals (constant.Long n) = Long n
constant_value literals (constant.String units) = elim (literal_in literals units) [ None ↦ Null | Some k ↦ Ref k ]

abbrev pub with_constant : List Literal → ClassParts → Field → Option Constant → List Static → List Static
with_constant literals c f None statics = statics
with_constant literals c f (Some value) statics = elim (is_static f.flags) [
  | true ↦ set_static_in statics (record { class = c.name; name = f.name; type = f.descriptor }) (narrow f.descriptor (constant_value literals value))
  | false ↦ statics
]

abbrev pub with_constants : List Literal → ClassParts → List Field → List Static → List Static
with_constants literals c [] statics = statics
with_constants literals c (f ∷ fs) statics = with_constants literals c fs (with_constant literals c f f.constant statics)

abbrev pub constants_of : World → Option ClassParts → List Static
constants_of w None = w.statics
constants_of w (Some c) = with_constants w.literals c c.fields w.statics

-- the frames below the initialization frame stay; it goes to another stage
abbrev pub at_stage : World → ℕ → Thread → List ℕ → Stage → List Frame → World
at_stage w number t class stage below = with_frames w number t (initialization_frame class stage ∷ below)

-- begin: done, or in progress by this thread, drops the frame; another's progress blocks; a class
-- that failed drops the frame and throws NoClassDefFoundError; else the class is in progress, and
-- its constants are set
abbrev pub begin : World → ℕ → Thread → List ℕ → List Frame → ClassState → Next
begin w number t class below Done = goes (with_frames w number t below)
begin w number t class below (InProgress owner) = elim (nat_eq owner number) [ true ↦ goes (with_frames w number t below) | false ↦ blocks ]
begin w number t class below Failed = throw w number (record t { frames = below }) (codes "java/lang/NoClassDefFoundError")
begin w number t class below NotBegun =
    goes (at_stage (record (with_state w class (InProgress number)) { statics = constants_of w (class_named w.program class) }) number t class Superclass below)

-- super: the superclass is initialized first, if it is not done
abbrev pub superclass_name : Option ClassParts → Option (List ℕ)
superclass_name None = None
superclass_name (Some c) = c.superclass

abbrev pub is_done : ClassState → Bool
is_done Done = true
is_done _ = false

abbrev pub superclass_first : World → ℕ → Thread → List ℕ → List Frame → Option (List ℕ) → Next
superclass_first w number t class below None = goes (at_stage w number t class Initializer below)
superclass_first w number t class below (Some above) = elim (is_done (state_of w above)) [
  | true ↦ goes (at_stage w number t class Initializer below)
  | false ↦ push_frame w number t (initialization_frame class Initializer ∷ below) (initialization_frame above Begin)
]

-- the class's own <clinit>()V, which from version 51 on is static (JVMS 2.9)
abbrev pub initializer_type : MethodDescriptor
initializer_type = record { parameters = []; return_type = None }

abbrev pub is_initializer : ClassParts → Method → Bool
is_initializer c m = nat_lt c.version.major 51 || is_static m.flags

abbrev pub initializer_in : ClassParts → Option Method → Option FoundMethod
initializer_in c None = None
initializer_in c (Some m) = elim (is_initializer c m) [ true ↦ Some (record { class = c; method = m }) | false ↦ None ]

abbrev pub initializer_of : Option ClassParts → Option FoundMethod
initializer_of None = None
initializer_of (Some c) = initializer_in c (method_in c.methods (codes "<clinit>") initializer_type)

-- marks the class as done and drops the frame
abbrev pub finish : World → ℕ → Thread → List ℕ → List Frame → Next
finish w number t class below = goes (with_frames (with_state w class Done) number t below)

-- clinit: calls <clinit>()V; without one the class is done
abbrev pub call_initializer : World → ℕ → Thread → List ℕ → List Frame → FoundMethod → Option Code → Next
call_initializer w number t class below found None = faults WrongKind
call_initializer w number t class below found (Some code) =
    push_frame w number t (initialization_frame class End ∷ below) (method_frame (name_of_method found) (activation_of code []) None)

abbrev pub run_initializer : World → ℕ → Thread → List ℕ → List Frame → Option FoundMethod → Next
run_initializer w number t class below None = finish w number t class below
run_initializer w number t class below (Some found) = call_initializer w number t class below found found.method.code

abbrev pub initialize : World → ℕ → Thread → List ℕ → Stage → List Frame → Next
initialize w number t class Begin below = begin w number t class below (state_of w class)
initialize w number t class Superclass below = superclass_first w number t class below (superclass_name (class_named w.program class))
initialize w number t class Initializer below = run_initializer w number t class below (initializer_of (class_named w.program class))
initialize w number t class End below = finish w number t class below
