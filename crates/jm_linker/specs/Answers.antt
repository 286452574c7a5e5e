-- What an answer of linking says of the reason why a program does not load.
use Rattle.std.specs.Prelude.{◌≡◌, Option, Some, None, Result, Ok, Err}
use Rattle.jm_world.specs.Loads.{Refusal, duplicate_class, no_class, cycle, no_field, no_method, wrong_kind, no_main, duplicate_member}
use Rattle.jm_linker.specs.declared.fault.LinkFault.{LinkFault}
use Rattle.jm_linker.specs.declared.fault.LinkFault.TheVariants as fault

-- the fault is that memory was refused, or it is the reason
abbrev pub SaysWhy : LinkFault → Option Refusal → Type 0
SaysWhy (fault.DuplicateClass name) reason = reason ≡ Some (duplicate_class name)
SaysWhy (fault.DuplicateMember name) reason = reason ≡ Some (duplicate_member name)
SaysWhy (fault.NoClass name) reason = reason ≡ Some (no_class name)
SaysWhy (fault.Cycle name) reason = reason ≡ Some (cycle name)
SaysWhy (fault.NoField name) reason = reason ≡ Some (no_field name)
SaysWhy (fault.NoMethod name) reason = reason ≡ Some (no_method name)
SaysWhy (fault.WrongKind name) reason = reason ≡ Some (wrong_kind name)
SaysWhy fault.NoMain reason = reason ≡ Some no_main
SaysWhy fault.OutOfMemory reason = Unit {0}

-- Ok where there is no reason
abbrev pub Answers : {A : Type 0} → Result A LinkFault → Option Refusal → Type 0
Answers (Ok _) reason = reason ≡ None
Answers (Err fault) reason = SaysWhy fault reason

abbrev pub IsOutOfMemory : LinkFault → Type 0
IsOutOfMemory f = f ≡ fault.OutOfMemory
