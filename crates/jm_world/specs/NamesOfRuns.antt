-- No name is missing at run time: in every world of a program that loads, what an instruction or a
-- handler of the program names is there.
use Rattle.std.specs.Prelude.{◌≡◌, ℕ, List, [], ◌∷◌, map, Option, Some, None, true}
use Rattle.std.specs.List.{AllByRecursion}
use Rattle.jm_program.specs.Flags.{is_static}
use Rattle.jm_program.specs.Fits.{Fits}
use Rattle.jm_program.specs.declared.class.ClassParts.{ClassParts}
use Rattle.jm_program.specs.declared.class.Method.{Method}
use Rattle.jm_program.specs.declared.code.Code.{Code}
use Rattle.jm_program.specs.declared.constant.Constant.{Constant}
use Rattle.jm_program.specs.declared.constant.Constant.TheVariants as constant
use Rattle.jm_program.specs.declared.descriptor.ElementType.{ElementType}
use Rattle.jm_program.specs.declared.descriptor.ElementType.TheVariants.{Base, Class}
use Rattle.jm_program.specs.declared.reference.ClassRef.{ClassRef}
use Rattle.jm_program.specs.declared.reference.ClassRef.TheVariants as named
use Rattle.jm_program.specs.declared.reference.MethodRef.{MethodRef}
use Rattle.jm_program.specs.declared.instruction.symbolic.Instr.{Instr}
use Rattle.jm_program.specs.declared.instruction.symbolic.Instr.TheVariants as instr
use Rattle.jm_program.specs.declared.instruction.operation.FieldOp.{FieldOp}
use Rattle.jm_program.specs.declared.instruction.operation.FieldOp.TheVariants.{GetStatic, PutStatic, GetField, PutField}
use Rattle.jm_program.specs.declared.instruction.operation.InvokeOp.{InvokeOp}
use Rattle.jm_world.specs.Classes.{FoundField, FoundMethod, class_named, method_named}
use Rattle.jm_world.specs.Resolution.{resolve_method}
use Rattle.jm_world.specs.Objects.{FieldName}
use Rattle.jm_world.specs.Fields.{resolved_field, name_of_field}
use Rattle.jm_world.specs.Frames.{Frame, method_frame, initialization_frame, entry_frame}
use Rattle.jm_world.specs.World.{World, Static, static_in, literal_in}
use Rattle.jm_world.specs.Initialization.{initializer_of}
use Rattle.jm_world.specs.Loading.{loaded_world}
use Rattle.jm_world.specs.Loads.{Loads, is_static_call}
use Rattle.jm_world.specs.Run.{after, run_from}
use Rattle.jm_world.specs.declared.event.Event.{Event}

-- the fields of statics
abbrev pub fields_of : List Static → List FieldName
fields_of statics = map (λ s. s.field) statics

-- the other world has the program, the literals and the fields of statics of the one
abbrev pub SameNames : World → World → Type 0
SameNames w v = (v.program ≡ w.program) × (v.literals ≡ w.literals) × (fields_of v.statics ≡ fields_of w.statics)

-- an event keeps them
abbrev pub EventsKeepNames : Type 0
EventsKeepNames = (w : World) (e : Event) → SameNames w (after w e).world

-- what was looked for was found
abbrev pub IsThere : {A : Type 0} → Option A → Type 0
IsThere None = ⊥
IsThere (Some a) = Unit {0}

-- the class is there, of an array type that of its elements
abbrev pub ElementIsThere : World → ElementType → Type 0
ElementIsThere w (Base b) = Unit {0}
ElementIsThere w (Class name) = IsThere (class_named w.program name)

abbrev pub ClassIsThere : World → ClassRef → Type 0
ClassIsThere w (named.Class name) = IsThere (class_named w.program name)
ClassIsThere w (named.Array t) = ElementIsThere w t.element

-- the field is found; of getstatic and putstatic its static is there
abbrev pub StaticIsThere : World → FieldOp → FoundField → Type 0
StaticIsThere w GetStatic found = IsThere (static_in w.statics (name_of_field found))
StaticIsThere w PutStatic found = IsThere (static_in w.statics (name_of_field found))
StaticIsThere w GetField found = Unit {0}
StaticIsThere w PutField found = Unit {0}

abbrev pub FieldIsThere : World → FieldOp → Option FoundField → Type 0
FieldIsThere w op None = ⊥
FieldIsThere w op (Some found) = StaticIsThere w op found

-- the method is found, and is a static one exactly where invokestatic names it, and then has code;
-- an array type has none
abbrev pub IsOfUse : InvokeOp → Option FoundMethod → Type 0
IsOfUse op None = ⊥
IsOfUse op (Some found) = (is_static found.method.flags ≡ is_static_call op) × (is_static_call op ≡ true → IsThere found.method.code)

abbrev pub MethodIsThere : World → InvokeOp → MethodRef → ClassRef → Type 0
MethodIsThere w op m (named.Class class) = IsThere (class_named w.program class) × IsOfUse op (resolve_method w.program class m.name m.descriptor)
MethodIsThere w op m (named.Array t) = ⊥

-- a string literal has its String
abbrev pub LiteralIsThere : World → Constant → Type 0
LiteralIsThere w (constant.Int n) = Unit {0}
LiteralIsThere w (constant.Long n) = Unit {0}
LiteralIsThere w (constant.String units) = IsThere (literal_in w.literals units)

-- what an instruction names
abbrev pub Finds : World → Instr → Type 0
Finds w (instr.Constant c) = LiteralIsThere w c
Finds w (instr.Field op f) = FieldIsThere w op (resolved_field w.program f f.class)
Finds w (instr.Invoke op m) = MethodIsThere w op m m.class
Finds w (instr.New class) = IsThere (class_named w.program class)
Finds w (instr.Type op t) = ClassIsThere w t
Finds w _ = Unit {0}

-- the class that a handler catches
abbrev pub CatchIsThere : World → Option (List ℕ) → Type 0
CatchIsThere w None = Unit {0}
CatchIsThere w (Some name) = IsThere (class_named w.program name)

abbrev pub CodeFinds : World → Option Code → Type 0
CodeFinds w None = Unit {0}
CodeFinds w (Some code) = AllByRecursion (Finds w) code.instructions × AllByRecursion (λ h. CatchIsThere w h.catch_type) code.handlers

-- a class's <clinit>()V has code
abbrev pub InitializerHasCode : Option FoundMethod → Type 0
InitializerHasCode None = Unit {0}
InitializerHasCode (Some found) = IsThere found.method.code

-- each instruction and each handler of each method of each class
abbrev pub ClassFinds : World → ClassParts → Type 0
ClassFinds w c = AllByRecursion (λ m. CodeFinds w m.code) c.methods × InitializerHasCode (initializer_of (Some c))

-- and so it is in every world of a program that loads and whose classes keep the rules of a class,
-- as each class that is read or assembled does
abbrev pub RunsHaveWhatIsNamed : Type 0
RunsHaveWhatIsNamed = (program : List ClassParts) (limit : ℕ) (events : List Event) → AllByRecursion Fits program → Loads program →
    let w : World = run_from (loaded_world program limit) events in (w.program ≡ program) × AllByRecursion (ClassFinds w) program

-- the method of each method frame is one of the program's, and has code
abbrev pub HasBody : Option Method → Type 0
HasBody None = ⊥
HasBody (Some m) = IsThere m.code

abbrev pub FramesHaveCode : List ClassParts → List Frame → Type 0
FramesHaveCode program [] = Unit {0}
FramesHaveCode program (method_frame m a monitor ∷ below) = HasBody (method_named program m) × FramesHaveCode program below
FramesHaveCode program (initialization_frame class stage ∷ below) = FramesHaveCode program below
FramesHaveCode program (entry_frame ∷ below) = FramesHaveCode program below

abbrev pub ThreadsHaveCode : World → Type 0
ThreadsHaveCode w = AllByRecursion (λ t. FramesHaveCode w.program t.frames) w.threads

-- an event keeps it so
abbrev pub EventsKeepCode : Type 0
EventsKeepCode = (w : World) (e : Event) → ThreadsHaveCode w → ThreadsHaveCode (after w e).world

-- and so it is in every world that a load and events make
abbrev pub RunsHaveCode : Type 0
RunsHaveCode = (program : List ClassParts) (limit : ℕ) (events : List Event) → ThreadsHaveCode (run_from (loaded_world program limit) events)
