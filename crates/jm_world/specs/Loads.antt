-- Which programs load, and why others do not, in the order in which it is looked at (JVMS 5.3, 5.4).
use Rattle.std.specs.Prelude.{◌≡◌, ℕ, List, [], ◌∷◌, Option, Some, None, Bool, true, false, ◌&&◌, ◌||◌, not, is_some}
use Rattle.jm_program.specs.Names.{same_text, is_init}
use Rattle.jm_program.specs.Flags.{is_static, is_interface, is_abstract}
use Rattle.jm_program.specs.declared.class.ClassParts.{ClassParts}
use Rattle.jm_program.specs.declared.class.Field.{Field}
use Rattle.jm_program.specs.declared.class.Method.{Method}
use Rattle.jm_program.specs.declared.code.Handler.{Handler}
use Rattle.jm_program.specs.declared.descriptor.ElementType.{ElementType}
use Rattle.jm_program.specs.declared.descriptor.ElementType.TheVariants.{Base, Class}
use Rattle.jm_program.specs.declared.reference.ClassRef.{ClassRef}
use Rattle.jm_program.specs.declared.reference.ClassRef.TheVariants as named
use Rattle.jm_program.specs.declared.reference.FieldRef.{FieldRef}
use Rattle.jm_program.specs.declared.reference.MethodRef.{MethodRef}
use Rattle.jm_program.specs.declared.instruction.symbolic.Instr.{Instr}
use Rattle.jm_program.specs.declared.instruction.symbolic.Instr.TheVariants as instr
use Rattle.jm_program.specs.declared.instruction.operation.FieldOp.{FieldOp}
use Rattle.jm_program.specs.declared.instruction.operation.FieldOp.TheVariants.{GetStatic, PutStatic, GetField, PutField}
use Rattle.jm_program.specs.declared.instruction.operation.InvokeOp.{InvokeOp}
use Rattle.jm_program.specs.declared.instruction.operation.InvokeOp.TheVariants.{Special, Static, Interface}
use Rattle.jm_builtins.specs.List.{the_builtins}
use Rattle.jm_world.specs.Classes.{FoundField, FoundMethod, class_named, built_in_named, height, field_in, method_in, object_class, string_class, system_class, print_stream_class}
use Rattle.jm_world.specs.Hierarchy.{parents, holds_of_any, is_below}
use Rattle.jm_world.specs.Resolution.{resolve_method}
use Rattle.jm_world.specs.Fields.{resolved_field}
use Rattle.jm_world.specs.Loading.{main_in}

-- why a program does not load, with the name that is at fault
pub data Refusal : Type 0 where
  duplicate_class : List ℕ → Refusal
  no_class : List ℕ → Refusal
  cycle : List ℕ → Refusal
  no_field : List ℕ → Refusal
  no_method : List ℕ → Refusal
  wrong_kind : List ℕ → Refusal
  no_main : Refusal
  duplicate_member : List ℕ → Refusal

-- the first reason, or else the second
abbrev pub or_else : Option Refusal → Option Refusal → Option Refusal
or_else (Some r) next = Some r
or_else None next = next

-- a reason, if it is so
abbrev pub when : Bool → Refusal → Option Refusal
when true r = Some r
when false r = None

-- the first reason along a list
abbrev pub first_of_all : {A : Type 0} → (A → Option Refusal) → List A → Option Refusal
first_of_all check [] = None
first_of_all check (x ∷ xs) = or_else (check x) (first_of_all check xs)

-- two classes of one name, the built-in ones included
abbrev pub is_named_among : List ClassParts → List ℕ → Bool
is_named_among [] name = is_some (built_in_named the_builtins name)
is_named_among (c ∷ cs) name = same_text c.name name || is_named_among cs name

abbrev pub duplicates : List ClassParts → List ClassParts → Option Refusal
duplicates seen [] = None
duplicates seen (c ∷ cs) = or_else (when (is_named_among seen c.name) (duplicate_class c.name)) (duplicates (c ∷ seen) cs)

-- two fields or two methods of one class of one name and type (JVMS 4.5, 4.6)
abbrev pub duplicate_fields : List Field → List Field → Option Refusal
duplicate_fields seen [] = None
duplicate_fields seen (f ∷ fs) = or_else (when (is_some (field_in seen f.name f.descriptor)) (duplicate_member f.name)) (duplicate_fields (f ∷ seen) fs)

abbrev pub duplicate_methods : List Method → List Method → Option Refusal
duplicate_methods seen [] = None
duplicate_methods seen (m ∷ ms) = or_else (when (is_some (method_in seen m.name m.descriptor)) (duplicate_member m.name)) (duplicate_methods (m ∷ seen) ms)

abbrev pub duplicate_members : ClassParts → Option Refusal
duplicate_members c = or_else (duplicate_fields [] c.fields) (duplicate_methods [] c.methods)

-- String, System and PrintStream are extended by no class and made by no new
abbrev pub is_sealed : List ℕ → Bool
is_sealed name = same_text name string_class || same_text name system_class || same_text name print_stream_class

-- an interface whose superclass is another one than java/lang/Object (JVMS 4.1)
abbrev pub is_strange_interface : ClassParts → List ℕ → Bool
is_strange_interface c superclass = is_interface c.flags && not (same_text superclass object_class)

-- the superclass is there and is a class that can be extended, java/lang/Object where an interface
-- names it; the superinterfaces are interfaces
abbrev pub superclass_of_kind : ClassParts → List ℕ → Option ClassParts → Option Refusal
superclass_of_kind c name None = Some (no_class name)
superclass_of_kind c name (Some above) = when (is_interface above.flags || is_sealed name || is_strange_interface c name) (wrong_kind name)

abbrev pub superclass_refusal : List ClassParts → ClassParts → Option (List ℕ) → Option Refusal
superclass_refusal program c None = None
superclass_refusal program c (Some name) = superclass_of_kind c name (class_named program name)

abbrev pub interface_of_kind : List ℕ → Option ClassParts → Option Refusal
interface_of_kind name None = Some (no_class name)
interface_of_kind name (Some c) = when (not (is_interface c.flags)) (wrong_kind name)

abbrev pub parents_refusal : List ClassParts → ClassParts → Option Refusal
parents_refusal program c = or_else (superclass_refusal program c c.superclass) (first_of_all (λ name. interface_of_kind name (class_named program name)) c.interfaces)

-- no class is above itself, superclasses and superinterfaces taken together (JVMS 5.3.5)
abbrev pub cycle_refusal : List ClassParts → ClassParts → Option Refusal
cycle_refusal program c = when (holds_of_any (λ parent. is_below (height program) program parent c.name) (parents (Some c))) (cycle c.name)

-- the first class declares a static main with code
abbrev pub is_main : Option FoundMethod → Bool
is_main None = false
is_main (Some found) = is_static found.method.flags && is_some found.method.code

-- a class, or the class of an array's elements, is there
abbrev pub class_refusal : List ClassParts → List ℕ → Option Refusal
class_refusal program name = when (not (is_some (class_named program name))) (no_class name)

abbrev pub element_refusal : List ClassParts → ElementType → Option Refusal
element_refusal program (Base b) = None
element_refusal program (Class name) = class_refusal program name

abbrev pub ref_refusal : List ClassParts → ClassRef → Option Refusal
ref_refusal program (named.Class name) = class_refusal program name
ref_refusal program (named.Array t) = element_refusal program t.element

-- a field is found, is static where it is used so, and System.out is not stored to
abbrev pub is_static_use : FieldOp → Bool
is_static_use GetStatic = true
is_static_use PutStatic = true
is_static_use GetField = false
is_static_use PutField = false

abbrev pub is_stored : FieldOp → Bool
is_stored PutStatic = true
is_stored _ = false

abbrev pub same_bool : Bool → Bool → Bool
same_bool true b = b
same_bool false b = not b

abbrev pub found_field_refusal : FieldOp → List ℕ → Option FoundField → Option Refusal
found_field_refusal op name None = Some (no_field name)
found_field_refusal op name (Some found) = or_else
    (when (not (same_bool (is_static found.field.flags) (is_static_use op))) (wrong_kind name))
    (when (is_stored op && same_text found.class.name system_class) (wrong_kind name))

abbrev pub field_refusal : List ClassParts → FieldOp → FieldRef → Option Refusal
field_refusal program op f = or_else (ref_refusal program f.class) (found_field_refusal op f.name (resolved_field program f f.class))

-- invokeinterface names an interface, and the others a class; <init> is invoked by invokespecial
-- alone, also where no class declares it; the method is found; a static method is invoked by
-- invokestatic alone
abbrev pub is_interface_use : InvokeOp → Bool
is_interface_use Interface = true
is_interface_use _ = false

abbrev pub is_special_use : InvokeOp → Bool
is_special_use Special = true
is_special_use _ = false

abbrev pub is_static_call : InvokeOp → Bool
is_static_call Static = true
is_static_call _ = false

abbrev pub init_refusal : InvokeOp → List ℕ → Option Refusal
init_refusal op name = when (is_init name && not (is_special_use op)) (wrong_kind name)

abbrev pub found_method_refusal : InvokeOp → List ℕ → Option FoundMethod → Option Refusal
found_method_refusal op name None = Some (no_method name)
found_method_refusal op name (Some found) = when (not (same_bool (is_static found.method.flags) (is_static_call op))) (wrong_kind name)

abbrev pub named_class_refusal : InvokeOp → List ℕ → Option ClassParts → Option Refusal
named_class_refusal op class None = Some (no_class class)
named_class_refusal op class (Some c) = when (not (same_bool (is_interface c.flags) (is_interface_use op))) (wrong_kind class)

abbrev pub method_refusal : List ClassParts → InvokeOp → MethodRef → ClassRef → Option Refusal
method_refusal program op m (named.Class class) =
    or_else (named_class_refusal op class (class_named program class))
    (or_else (init_refusal op m.name)
    (found_method_refusal op m.name (resolve_method program class m.name m.descriptor)))
method_refusal program op m (named.Array t) =
    or_else (element_refusal program t.element)
    (or_else (init_refusal op m.name)
    (Some (no_method m.name)))

-- new makes no interface, no abstract class, and no String, System or PrintStream
abbrev pub new_refusal : List ℕ → Option ClassParts → Option Refusal
new_refusal name None = Some (no_class name)
new_refusal name (Some c) = when (is_interface c.flags || is_abstract c.flags || is_sealed name) (wrong_kind name)

abbrev pub instruction_refusal : List ClassParts → Instr → Option Refusal
instruction_refusal program (instr.Field op f) = field_refusal program op f
instruction_refusal program (instr.Invoke op m) = method_refusal program op m m.class
instruction_refusal program (instr.New name) = new_refusal name (class_named program name)
instruction_refusal program (instr.Type op t) = ref_refusal program t
instruction_refusal program _ = None

abbrev pub catch_refusal : List ClassParts → Handler → Option Refusal
catch_refusal program h = elim h.catch_type [ None ↦ None | Some name ↦ class_refusal program name ]

abbrev pub method_code_refusal : List ClassParts → Method → Option Refusal
method_code_refusal program m = elim m.code [
  | None ↦ None
  | Some code ↦ or_else (first_of_all (instruction_refusal program) code.instructions) (first_of_all (catch_refusal program) code.handlers)
]

-- the first reason: class names; members; superclasses and interfaces of each class; cycles; main;
-- the instructions and catch types of each class
unfoldable pub refusal : List ClassParts → Option Refusal
refusal program =
    or_else (duplicates [] program)
    (or_else (first_of_all duplicate_members program)
    (or_else (first_of_all (parents_refusal program) program)
    (or_else (first_of_all (cycle_refusal program) program)
    (or_else (when (not (is_main (main_in program))) no_main)
    (first_of_all (λ c. first_of_all (method_code_refusal program) c.methods) program)))))

-- a program loads
abbrev pub Loads : List ClassParts → Type 0
Loads program = refusal program ≡ None
