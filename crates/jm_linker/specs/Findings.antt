-- All that is refused of a program, and where it stands. What stops a program first is the first of them.
use Rattle.std.specs.Prelude.{◌≡◌, ℕ, zero, suc, ◌+◌, List, [], ◌∷◌, ◌++◌, Option, Some, None, not}
use Rattle.jm_program.specs.declared.class.ClassParts.{ClassParts}
use Rattle.jm_program.specs.declared.class.Method.{Method}
use Rattle.jm_program.specs.declared.code.Code.{Code}
use Rattle.jm_world.specs.Classes.{class_named}
use Rattle.jm_world.specs.Loading.{main_in}
use Rattle.jm_world.specs.Loads.{Refusal, duplicate_class, no_class, cycle, no_field, no_method, wrong_kind, no_main, duplicate_member, or_else, when, is_main, is_named_among, duplicate_members, superclass_refusal, interface_of_kind, cycle_refusal, instruction_refusal, catch_refusal}
use Rattle.jm_linker.specs.declared.fault.LinkFault.{LinkFault}
use Rattle.jm_linker.specs.declared.fault.LinkFault.TheVariants as fault
use Rattle.jm_linker.specs.declared.finding.Finding.{Finding}
use Rattle.jm_linker.specs.declared.finding.Site.{Site}
use Rattle.jm_linker.specs.declared.finding.Site.TheVariants as site

-- the fault that says the reason
abbrev pub load_fault : Refusal → LinkFault
load_fault (duplicate_class name) = fault.DuplicateClass name
load_fault (no_class name) = fault.NoClass name
load_fault (cycle name) = fault.Cycle name
load_fault (no_field name) = fault.NoField name
load_fault (no_method name) = fault.NoMethod name
load_fault (wrong_kind name) = fault.WrongKind name
load_fault no_main = fault.NoMain
load_fault (duplicate_member name) = fault.DuplicateMember name

-- what is told of a site, by the reason why it is refused, if it is
abbrev pub found : Site → Option Refusal → List Finding
found s None = []
found s (Some r) = record { site = s; fault = load_fault r } ∷ []

-- what is told of each along a list, by its number
abbrev pub each : {A : Type 0} → (ℕ → A → List Finding) → ℕ → List A → List Finding
each tell n [] = []
each tell n (x ∷ xs) = tell n x ++ each tell (n + 1) xs

-- classes whose name another one before them has, or a built-in one
abbrev pub named_again : List ClassParts → ℕ → List ClassParts → List Finding
named_again seen n [] = []
named_again seen n (c ∷ cs) = found (site.Class n) (when (is_named_among seen c.name) (duplicate_class c.name)) ++ named_again (seen ++ c ∷ []) (n + 1) cs

-- of members that stand twice in a class the first
abbrev pub members_again : ℕ → ClassParts → List Finding
members_again n c = found (site.Class n) (duplicate_members c)

-- superclasses and superinterfaces (JVMS 5.3.5)
abbrev pub parents_found : List ClassParts → ℕ → ClassParts → List Finding
parents_found program n c =
    found (site.Superclass n) (superclass_refusal program c c.superclass)
    ++ each (λ i name. found (site.Interface n i) (interface_of_kind name (class_named program name))) 0 c.interfaces

abbrev pub cycle_found : List ClassParts → ℕ → ClassParts → List Finding
cycle_found program n c = found (site.Class n) (cycle_refusal program c)

abbrev pub main_found : List ClassParts → List Finding
main_found program = found site.Main (when (not (is_main (main_in program))) no_main)

-- what a method's instructions and its exception table name (JVMS 5.4.3)
abbrev pub code_found : List ClassParts → ℕ → ℕ → Code → List Finding
code_found program n m code =
    each (λ i instruction. found (site.Instruction n m i) (instruction_refusal program instruction)) 0 code.instructions
    ++ each (λ h handler. found (site.Handler n m h) (catch_refusal program handler)) 0 code.handlers

abbrev pub method_found : List ClassParts → ℕ → ℕ → Method → List Finding
method_found program n m method = elim method.code [ None ↦ [] | Some code ↦ code_found program n m code ]

abbrev pub methods_found : List ClassParts → ℕ → ClassParts → List Finding
methods_found program n c = each (method_found program n) 0 c.methods

-- in the order in which linking looks for them
abbrev pub findings : List ClassParts → List Finding
findings program =
    named_again [] 0 program
    ++ each members_again 0 program
    ++ each (parents_found program) 0 program
    ++ each (cycle_found program) 0 program
    ++ main_found program
    ++ each (methods_found program) 0 program

-- the fault of the first that is told
abbrev pub first_fault : List Finding → Option LinkFault
first_fault [] = None
first_fault (f ∷ fs) = Some f.fault
