-- The names of the classes that a class uses: those that linking resolves (JVMS 5.3.5, 5.4.3), in the order of their uses.
use Rattle.std.specs.Prelude.{ℕ, List, [], ◌∷◌, ◌++◌, Option, Some, None}
use Rattle.std.specs.List.{flat_map}
use Rattle.jm_program.specs.declared.class.ClassParts.{ClassParts}
use Rattle.jm_program.specs.declared.class.Method.{Method}
use Rattle.jm_program.specs.declared.code.Code.{Code}
use Rattle.jm_program.specs.declared.code.Handler.{Handler}
use Rattle.jm_program.specs.declared.descriptor.ElementType.{ElementType}
use Rattle.jm_program.specs.declared.descriptor.ElementType.TheVariants.{Base, Class}
use Rattle.jm_program.specs.declared.reference.ClassRef.{ClassRef}
use Rattle.jm_program.specs.declared.reference.ClassRef.TheVariants as named
use Rattle.jm_program.specs.declared.instruction.symbolic.Instr.{Instr}
use Rattle.jm_program.specs.declared.instruction.symbolic.Instr.TheVariants as instr

-- the name of a class, as UTF-16 code units
abbrev pub Name : Type 0
Name = List ℕ

-- of an array's elements their class, where they are of one
abbrev pub element_class : ElementType → Option Name
element_class (Base b) = None
element_class (Class name) = Some name

-- a class, or that of an array's elements (JVMS 5.4.3.1)
abbrev pub class_named : ClassRef → Option Name
class_named (named.Class name) = Some name
class_named (named.Array t) = element_class t.element

-- the class of a field or a method, the class that is made, and the type of a cast, a test or an array (JVMS 6.5)
abbrev pub class_of_instruction : Instr → Option Name
class_of_instruction (instr.Field op f) = class_named f.class
class_of_instruction (instr.Invoke op m) = class_named m.class
class_of_instruction (instr.New name) = Some name
class_of_instruction (instr.Type op t) = class_named t
class_of_instruction _ = None

-- a name, if there is one
abbrev pub if_named : Option Name → List Name
if_named None = []
if_named (Some name) = name ∷ []

abbrev pub instruction_uses : Instr → List Name
instruction_uses i = if_named (class_of_instruction i)

-- the class that a row of an exception table catches
abbrev pub handler_uses : Handler → List Name
handler_uses h = if_named h.catch_type

abbrev pub code_uses : Code → List Name
code_uses code = flat_map instruction_uses code.instructions ++ flat_map handler_uses code.handlers

abbrev pub body_uses : Option Code → List Name
body_uses None = []
body_uses (Some code) = code_uses code

abbrev pub method_uses : Method → List Name
method_uses m = body_uses m.code

-- the superclass, the superinterfaces, and what the methods' code names
abbrev pub uses : ClassParts → List Name
uses c = if_named c.superclass ++ c.interfaces ++ flat_map method_uses c.methods
