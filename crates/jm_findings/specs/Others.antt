-- What there is instead: methods of the name that an instruction refers to, and classes that declare main.
use Rattle.std.specs.Prelude.{ℕ, List, [], ◌∷◌, ◌++◌, Option, Some, None, Bool, codes, if◌then◌else◌}
use Rattle.std.specs.List.{flat_map}
use Rattle.jm_program.specs.Names.{same_text}
use Rattle.jm_program.specs.JasminUnits.{name_text}
use Rattle.jm_program.specs.JasminTypes.{method_line}
use Rattle.jm_program.specs.declared.class.ClassParts.{ClassParts}
use Rattle.jm_program.specs.declared.class.Method.{Method}
use Rattle.jm_program.specs.declared.instruction.symbolic.Instr.{Instr}
use Rattle.jm_program.specs.declared.instruction.symbolic.Instr.TheVariants as instr
use Rattle.jm_program.specs.declared.reference.ClassRef.{ClassRef}
use Rattle.jm_program.specs.declared.reference.ClassRef.TheVariants as named
use Rattle.jm_world.specs.Classes.{class_named}
use Rattle.jm_world.specs.Loading.{main_in}
use Rattle.jm_world.specs.Loads.{is_main}
use Rattle.jm_linker.specs.declared.fault.LinkFault.{LinkFault}
use Rattle.jm_linker.specs.declared.fault.LinkFault.TheVariants as fault

-- one more method of the name
unfoldable pub also_method : List ℕ → Method → List ℕ
also_method name m = if same_text m.name name then codes ", " ++ method_line m.descriptor else []

unfoldable pub first_method : List ℕ → Method → List Method → List ℕ
first_method name m ms = codes "; there are " ++ method_line m.descriptor ++ flat_map (also_method name) ms

-- the types of the methods that have the name, in their order
abbrev pub there_are : List ℕ → List Method → List ℕ
there_are name [] = []
there_are name (m ∷ ms) = if same_text m.name name then first_method name m ms else there_are name ms

abbrev pub methods_of : Option ClassParts → List Method
methods_of None = []
methods_of (Some c) = c.methods

-- those that the class of a reference declares; an array declares none
unfoldable pub methods_named : List ClassParts → ClassRef → List ℕ → List ℕ
methods_named program (named.Class class) name = there_are name (methods_of (class_named program class))
methods_named program (named.Array t) name = []

-- where a method is not there, those of its name that are
unfoldable pub instead_text : List ClassParts → LinkFault → Instr → List ℕ
instead_text program (fault.NoMethod name) (instr.Invoke op m) = methods_named program m.class m.name
instead_text program _ _ = []

-- a class that a run could begin with
abbrev pub has_main : ClassParts → Bool
has_main c = is_main (main_in (c ∷ []))

-- one more class with main
unfoldable pub also_main : ClassParts → List ℕ
also_main c = if has_main c then codes ", " ++ name_text c.name else []

unfoldable pub first_main : ClassParts → List ClassParts → List ℕ
first_main c cs = codes "; there is one in " ++ name_text c.name ++ flat_map also_main cs

-- the classes that declare main, in their order
abbrev pub there_is_main : List ClassParts → List ℕ
there_is_main [] = []
there_is_main (c ∷ cs) = if has_main c then first_main c cs else there_is_main cs

-- the first class, and those that declare main
unfoldable pub main_text : List ClassParts → List ℕ
main_text [] = codes "no class"
main_text (c ∷ cs) = name_text c.name ++ there_is_main cs
