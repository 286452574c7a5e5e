-- A putstatic of a program that loads stores to a static field of one of the program's own classes
-- (JVMS 6.5 putstatic): of the built-in classes System alone has a static field, which is final.
use Rattle.std.specs.Prelude.{◌≡◌, List, Option, Some, None}
use Rattle.std.specs.List.{AllByRecursion}
use Rattle.jm_program.specs.declared.class.ClassParts.{ClassParts}
use Rattle.jm_program.specs.declared.code.Code.{Code}
use Rattle.jm_program.specs.declared.instruction.operation.FieldOp.TheVariants.{PutStatic}
use Rattle.jm_program.specs.declared.instruction.symbolic.Instr.{Instr}
use Rattle.jm_program.specs.declared.instruction.symbolic.Instr.TheVariants as instr
use Rattle.jm_builtins.specs.List.{the_builtins}
use Rattle.jm_world.specs.Classes.{FoundField, built_in_named}
use Rattle.jm_world.specs.Fields.{resolved_field}
use Rattle.jm_world.specs.Loads.{Loads}

-- the field is found, in a class that is not built-in
abbrev pub IsOwn : Option FoundField → Type 0
IsOwn None = ⊥
IsOwn (Some found) = built_in_named the_builtins found.class.name ≡ None

abbrev pub StoresOwn : List ClassParts → Instr → Type 0
StoresOwn program (instr.Field PutStatic f) = IsOwn (resolved_field program f f.class)
StoresOwn program _ = Unit {0}

abbrev pub CodeStoresOwn : List ClassParts → Option Code → Type 0
CodeStoresOwn program None = Unit {0}
CodeStoresOwn program (Some code) = AllByRecursion (StoresOwn program) code.instructions

-- each instruction of each method of each class
abbrev pub ProgramsStoreOwn : Type 0
ProgramsStoreOwn = (program : List ClassParts) → Loads program → AllByRecursion (λ c. AllByRecursion (λ m. CodeStoresOwn program m.code) c.methods) program
