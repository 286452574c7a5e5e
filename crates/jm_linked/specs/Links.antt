-- A linked program beside its classes.
use Rattle.std.specs.Prelude.{◌≡◌, ℕ, suc, List, [], ◌∷◌, ◌++◌, map, length, Option}
use Rattle.std.specs.Prelude.{Some, None, Bool, true, false, ◌&&◌, is_some, unwrap_or, slice_get, option_map, IfSome}
use Rattle.std.specs.List.{AllByRecursion, list_all}
use Rattle.jm_program.specs.Fits.{Fits}
use Rattle.jm_program.specs.Flags.{is_static, is_synchronized}
use Rattle.jm_program.specs.Instructions.{instr_fits}
use Rattle.jm_program.specs.declared.class.ClassParts.{ClassParts}
use Rattle.jm_program.specs.declared.class.Method.{Method}
use Rattle.jm_program.specs.declared.code.Code.{Code}
use Rattle.jm_program.specs.declared.code.Handler.{Handler}
use Rattle.jm_program.specs.declared.constant.Constant.TheVariants as constant
use Rattle.jm_program.specs.declared.descriptor.ElementType.{ElementType}
use Rattle.jm_program.specs.declared.descriptor.ElementType.TheVariants as type
use Rattle.jm_program.specs.declared.descriptor.FieldType.{FieldType}
use Rattle.jm_program.specs.declared.instruction.operation.FieldOp.{FieldOp}
use Rattle.jm_program.specs.declared.instruction.operation.FieldOp.TheVariants.{GetStatic}
use Rattle.jm_program.specs.declared.instruction.operation.InvokeOp.{InvokeOp}
use Rattle.jm_program.specs.declared.instruction.operation.InvokeOp.TheVariants.{Virtual, Special}
use Rattle.jm_program.specs.declared.instruction.symbolic.Instr.{Instr}
use Rattle.jm_program.specs.declared.instruction.symbolic.Instr.TheVariants as instr
use Rattle.jm_program.specs.declared.reference.ClassRef.{ClassRef}
use Rattle.jm_program.specs.declared.reference.ClassRef.TheVariants as named
use Rattle.jm_program.specs.declared.reference.FieldRef.{FieldRef}
use Rattle.jm_program.specs.declared.reference.MethodRef.{MethodRef}
use Rattle.jm_builtins.specs.List.{the_builtins}
use Rattle.jm_builtins.specs.Numbers.{built_in_names}
use Rattle.jm_world.specs.Classes.{FoundField, FoundMethod, MethodName, as_class, name_of_method, method_in, method_named}
use Rattle.jm_world.specs.Fields.{resolved_field}
use Rattle.jm_world.specs.Here.{Here}
use Rattle.jm_world.specs.Invocation.{found_special}
use Rattle.jm_world.specs.Loading.{literal_texts, main_in}
use Rattle.jm_world.specs.Loads.{Loads}
use Rattle.jm_world.specs.Resolution.{resolve_method}
use Rattle.jm_world.specs.Types.{type_of_ref}
use Rattle.jm_linked.specs.Kinds.{kind_of}
use Rattle.jm_linked.specs.PrintStreams.{is_system_out, is_print, print_among, print_methods}
use Rattle.jm_linked.specs.Methods.{all_methods, selector_of}
use Rattle.jm_linked.specs.declared.instruction.InvokedMethod.{InvokedMethod}
use Rattle.jm_linked.specs.declared.instruction.LinkedElement.{LinkedElement}
use Rattle.jm_linked.specs.declared.instruction.LinkedElement.TheVariants as element
use Rattle.jm_linked.specs.declared.instruction.LinkedInstr.{LinkedInstr}
use Rattle.jm_linked.specs.declared.instruction.LinkedInstr.TheVariants as linked
use Rattle.jm_linked.specs.declared.instruction.LinkedType.{LinkedType}
use Rattle.jm_linked.specs.declared.instruction.MemberNumber.{MemberNumber}
use Rattle.jm_linked.specs.declared.instruction.PrintMethod.{PrintMethod}
use Rattle.jm_linked.specs.declared.method.LinkedHandler.{LinkedHandler}
use Rattle.jm_linked.specs.declared.method.LinkedMethod.{LinkedMethod}
use Rattle.jm_linked.specs.declared.method.Selected.{Selected}
use Rattle.jm_linked.specs.declared.method.Selected.TheVariants.{Nothing, WithoutCode, Coded}
use Rattle.jm_linked.specs.declared.tables.Tables.{Tables}
use Rattle.jm_linked.specs.Tables.{AreTables}

-- the classes, the methods with code, the texts of literals and what the classes have, by number, and
-- the number of main
pub record LinkedView : Type 0 where
  pub program : List ClassParts
  pub methods : List LinkedMethod
  pub literals : List (List ℕ)
  pub tables : Tables
  pub main : ℕ

-- the names of classes by number: the built-in ones first
abbrev pub class_names : List ClassParts → List (List ℕ)
class_names program = built_in_names ++ map (λ c. c.name) program

unfoldable pub class_name_of : List ClassParts → ℕ → List ℕ
class_name_of program n = unwrap_or (slice_get (class_names program) n) []

-- the class of that number
abbrev pub class_numbered : List ClassParts → ℕ → Option ClassParts
class_numbered program n = slice_get (map as_class the_builtins ++ program) n

-- the number names the class
abbrev pub NamesClass : List ClassParts → ℕ → List ℕ → Type 0
NamesClass program n name = slice_get (class_names program) n ≡ Some name

abbrev pub NamesElement : List ClassParts → LinkedElement → ElementType → Type 0
NamesElement program (element.Base base) t = t ≡ type.Base base
NamesElement program (element.Class n) t = (name : List ℕ) × (t ≡ type.Class name) × NamesClass program n name

pub record NamesType (program : List ClassParts) (linked : LinkedType) (t : FieldType) : Type 0 where
  pub dimensions : t.dimensions ≡ linked.dimensions
  pub element : NamesElement program linked.element t.element

-- the field, or the method, that a class of that number declares under a number
pub record IsFieldOf (program : List ClassParts) (n : MemberNumber) (found : FoundField) : Type 0 where
  pub class : class_numbered program n.class ≡ Some found.class
  pub field : slice_get found.class.fields n.member ≡ Some found.field

pub record IsMethodOf (program : List ClassParts) (n : MemberNumber) (found : FoundMethod) : Type 0 where
  pub class : class_numbered program n.class ≡ Some found.class
  pub method : slice_get found.class.methods n.member ≡ Some found.method

-- the uses of fields and the invokes that are linked in another way: getstatic of System.out, calls of
-- the methods that print, and each invokespecial
abbrev pub reads_system_out : FieldOp → FieldRef → Bool
reads_system_out GetStatic f = is_system_out f
reads_system_out _ f = false

abbrev pub is_class_call : InvokeOp → Bool
is_class_call Virtual = true
is_class_call Special = true
is_class_call _ = false

abbrev pub prints : InvokeOp → MethodRef → Bool
prints op m = is_class_call op && is_some (print_among print_methods m)

abbrev pub is_linked_apart : InvokeOp → MethodRef → Bool
is_linked_apart Special m = true
is_linked_apart op m = prints op m

-- a use of the field that the reference means (JVMS 5.4.3.2)
pub record FieldLinks (program : List ClassParts) (op : FieldOp) (n : MemberNumber) (i : Instr) : Type 0 where
  pub field : FieldRef
  pub is : i ≡ instr.Field op field
  pub other : reads_system_out op field ≡ false
  pub found : FoundField
  pub resolved : resolved_field program field field.class ≡ Some found
  pub numbered : IsFieldOf program n found

-- an invoke of the method that the reference means (JVMS 5.4.3.3, 5.4.3.4)
pub record InvokeLinks (program : List ClassParts) (op : InvokeOp) (n : InvokedMethod) (i : Instr) : Type 0 where
  pub method : MethodRef
  pub is : i ≡ instr.Invoke op method
  pub other : is_linked_apart op method ≡ false
  pub name : List ℕ
  pub class : method.class ≡ named.Class name
  pub named : NamesClass program n.named name
  pub found : FoundMethod
  pub resolved : resolve_method program name method.name method.descriptor ≡ Some found
  pub numbered : IsMethodOf program n.found found
  pub selected : selector_of program method.name method.descriptor ≡ Some n.selector

-- a call of a method of a print stream
pub record PrintLinks (p : PrintMethod) (i : Instr) : Type 0 where
  pub op : InvokeOp
  pub of_class : is_class_call op ≡ true
  pub method : MethodRef
  pub is : i ≡ instr.Invoke op method
  pub prints : is_print method p ≡ true

-- an invokespecial; the method of the number is of instances, and has the name and the type that it asks for
pub record SpecialLinks (program : List ClassParts) (n : InvokedMethod) (i : Instr) : Type 0 where
  pub method : MethodRef
  pub is : i ≡ instr.Invoke Special method
  pub name : List ℕ
  pub class : method.class ≡ named.Class name
  pub named : NamesClass program n.named name
  pub found : FoundMethod
  pub declares : method_in found.class.methods method.name method.descriptor ≡ Some found.method
  pub instance : is_static found.method.flags ≡ false
  pub numbered : IsMethodOf program n.found found

-- the symbolic instruction is the linked one with names in the place of what the linked program
-- numbers (JVMS 5.4.3)
abbrev pub LinksIn : List ClassParts → LinkedInstr → Instr → Type 0
LinksIn program (linked.Plain op) i = i ≡ instr.Plain op
LinksIn program (linked.Int n) i = i ≡ instr.Constant (constant.Int n)
LinksIn program (linked.Long n) i = i ≡ instr.Constant (constant.Long n)
LinksIn program (linked.Literal n) i = (units : List ℕ) × (i ≡ instr.Constant (constant.String units)) × (slice_get (literal_texts program) n ≡ Some units)
LinksIn program (linked.Return op) i = i ≡ instr.Return op
LinksIn program (linked.Array op) i = i ≡ instr.Array op
LinksIn program linked.Throw i = i ≡ instr.Throw
LinksIn program (linked.Monitor op) i = i ≡ instr.Monitor op
LinksIn program linked.SystemOut i = (f : FieldRef) × (i ≡ instr.Field GetStatic f) × (is_system_out f ≡ true)
LinksIn program (linked.Field op n) i = FieldLinks program op n i
LinksIn program (linked.Print p) i = PrintLinks p i
LinksIn program (linked.Special n) i = SpecialLinks program n i
LinksIn program (linked.NoSpecial n) i = SpecialLinks program n i
LinksIn program (linked.Invoke op n) i = InvokeLinks program op n i
LinksIn program (linked.New n) i = (name : List ℕ) × (i ≡ instr.New name) × NamesClass program n name
LinksIn program (linked.Type op t) i = (class : ClassRef) × (i ≡ instr.Type op class) × NamesType program t (type_of_ref class)

-- what the model finds for an invokespecial is the method of the linked one, or none is found
abbrev pub Calls : List ClassParts → LinkedInstr → Option FoundMethod → Type 0
Calls program (linked.Special n) (Some found) = IsMethodOf program n.found found
Calls program (linked.Special n) None = ⊥
Calls program (linked.NoSpecial n) found = found ≡ None
Calls program _ found = Unit {0}

-- so it is wherever a method of the class runs (JVMS 6.5 invokespecial)
abbrev pub CallsFrom : List ClassParts → List ℕ → LinkedInstr → Instr → Type 0
CallsFrom program class x (instr.Invoke Special m) = (here : Here) → here.world.program ≡ program → here.method.class ≡ class
    → (name : List ℕ) → m.class ≡ named.Class name → Calls program x (found_special here name m)
CallsFrom program class x i = Unit {0}

-- the instructions of a method of the class
abbrev pub AllLinkIn : List ClassParts → List ℕ → List LinkedInstr → List Instr → Type 0
AllLinkIn program class [] [] = Unit {0}
AllLinkIn program class (x ∷ xs) (i ∷ is) = (LinksIn program x i × CallsFrom program class x i) × AllLinkIn program class xs is
AllLinkIn program class [] (i ∷ is) = ⊥
AllLinkIn program class (x ∷ xs) [] = ⊥

abbrev pub Links : LinkedView → LinkedInstr → Instr → Type 0
Links l x i = LinksIn l.program x i

abbrev pub AllLink : LinkedView → List ℕ → List LinkedInstr → List Instr → Type 0
AllLink l class xs is = AllLinkIn l.program class xs is

-- the row of the exception table that a linked one stands for
abbrev pub handler_in : List ClassParts → LinkedHandler → Handler
handler_in program h = record { start = h.start; end = h.end; target = h.target; catch_type = option_map (class_name_of program) h.catch_type }

abbrev pub handler_of : LinkedView → LinkedHandler → Handler
handler_of l h = handler_in l.program h

-- its catch type, if it has one, is the number of a class
abbrev pub CatchesClass : List ClassParts → LinkedHandler → Type 0
CatchesClass program h = IfSome h.catch_type (λ n. NamesClass program n (class_name_of program n))

-- the name by which the model keeps a method: that of the member of that number of a class
abbrev pub no_name : MethodName
no_name = record { class = []; name = []; descriptor = record { parameters = []; return_type = None } }

abbrev pub member_name : ClassParts → Option Method → MethodName
member_name c None = no_name
member_name c (Some m) = name_of_method (record { class = c; method = m })

abbrev pub name_in_class : Option ClassParts → ℕ → MethodName
name_in_class None member = no_name
name_in_class (Some c) member = member_name c (slice_get c.methods member)

abbrev pub linked_name : List ClassParts → LinkedMethod → MethodName
linked_name program m = name_in_class (slice_get program m.class) m.member

-- the name of the method of a number
abbrev pub name_among : List ClassParts → Option LinkedMethod → MethodName
name_among program None = no_name
name_among program (Some m) = linked_name program m

unfoldable pub name_of_number : LinkedView → ℕ → MethodName
name_of_number l n = name_among l.program (slice_get l.methods n)

-- the linked method is the method that the program has under its name, with its code
pub record MethodLinks (l : LinkedView) (m : LinkedMethod) : Type 0 where
  pub class : ClassParts
  pub method : Method
  pub code : Code
  pub class_is : slice_get l.program m.class ≡ Some class
  pub class_fits : Fits class
  pub method_is : slice_get class.methods m.member ≡ Some method
  pub code_is : method.code ≡ Some code
  pub named : method_named l.program (name_of_method (record { class = class; method = method })) ≡ Some method
  pub parameters : m.parameters ≡ map kind_of method.descriptor.parameters
  pub result : m.result ≡ option_map kind_of method.descriptor.return_type
  pub synchronized : m.is_synchronized ≡ is_synchronized method.flags
  pub max_stack : m.max_stack ≡ code.max_stack
  pub max_locals : m.max_locals ≡ code.max_locals
  pub instructions : AllLink l class.name m.code code.instructions
  pub fits : list_all (instr_fits (length code.instructions)) code.instructions ≡ true
  pub handlers : map (handler_of l) m.handlers ≡ code.handlers
  pub catch_types : AllByRecursion (CatchesClass l.program) m.handlers

-- the methods with code of a class, and of classes, by the number of the class among the program's
-- and the method's among those of its class, both from a number on
abbrev pub coded_among : ℕ → ℕ → List Method → List (ℕ × ℕ)
coded_among class k [] = []
coded_among class k (m ∷ ms) = elim m.code [ None ↦ coded_among class (suc k) ms | Some code ↦ (class, k) ∷ coded_among class (suc k) ms ]

abbrev pub coded_from : ℕ → List ClassParts → List (ℕ × ℕ)
coded_from k [] = []
coded_from k (c ∷ cs) = coded_among k 0 c.methods ++ coded_from (suc k) cs

abbrev pub place_of : LinkedMethod → ℕ × ℕ
place_of m = (m.class, m.member)

pub record IsLinked (l : LinkedView) : Type 0 where
  pub loads : Loads l.program
  -- the methods are all that have code, in the order of the classes and of the methods of each
  pub methods : (n : ℕ) (m : LinkedMethod) → slice_get l.methods n ≡ Some m → MethodLinks l m
  pub all : map place_of l.methods ≡ coded_from 0 l.program
  -- the literals are in the model's order, equal ones once (JVMS 5.1)
  pub literals : l.literals ≡ literal_texts l.program
  pub tables : AreTables l.program l.tables
  -- main is the first class's
  pub main : LinkedMethod
  pub main_is : slice_get l.methods l.main ≡ Some main
  pub found : FoundMethod
  pub found_is : main_in l.program ≡ Some found
  pub main_name : linked_name l.program main ≡ name_of_method found

-- what is found where a method of a class is to be selected: nothing; a method without code, by its
-- number among the methods of all classes; or one with code, by its number among these
abbrev pub IsSelected : LinkedView → Option FoundMethod → Selected → Type 0
IsSelected l None Nothing = Unit {0}
IsSelected l (Some found) (WithoutCode n) = (found.method.code ≡ None) × (slice_get (all_methods l.program) n ≡ Some found)
IsSelected l (Some found) (Coded k) = (is_some found.method.code ≡ true) × (m : LinkedMethod) × (slice_get l.methods k ≡ Some m) ×
    (linked_name l.program m ≡ name_of_method found)
IsSelected l _ _ = ⊥
