-- A method of a print stream by invokespecial: the one that invokevirtual selects (JVMS 6.5 invokespecial, invokevirtual).
use Rattle.std.proofs.Common.{◌≡◌, ℕ, ◌+◌, List, [], ◌∷◌, Option, Some, None, Bool, true, false, not, refl, sym, ap, ◌∙◌, add-one, length}
use Rattle.std.specs.Prelude.{◌&&◌}
use Rattle.jm_program.specs.Names.{same_text}
use Rattle.jm_program.specs.declared.class.ClassParts.{ClassParts}
use Rattle.jm_program.specs.declared.descriptor.ElementType.TheVariants.{Class}
use Rattle.jm_program.specs.declared.instruction.operation.InvokeOp.{InvokeOp}
use Rattle.jm_program.specs.declared.instruction.operation.InvokeOp.TheVariants.{Virtual, Special, Static, Interface}
use Rattle.jm_program.specs.declared.instruction.symbolic.Instr.TheVariants as instr
use Rattle.jm_program.proofs.Texts.{text_is}
use Rattle.jm_builtins.specs.List.{print_stream}
use Rattle.jm_values.specs.declared.value.Value.{Value}
use Rattle.jm_values.specs.declared.fault.TagFault.TheVariants.{WrongKind}
use Rattle.jm_world.specs.Classes.{FoundMethod, as_class, print_stream_class}
use Rattle.jm_world.specs.Here.{Here}
use Rattle.jm_world.specs.Hierarchy.{chain, dimensions_assignable, is_assignable, is_subclass, up_from}
use Rattle.jm_world.specs.Invocation.{call_found, class_of, found_special, is_of_class, special_class, superclass_of, with_receiver}
use Rattle.jm_world.specs.Classes.{class_named}
use Rattle.jm_world.specs.Loads.{Loads}
use Rattle.jm_world.specs.Next.{Next, faults}
use Rattle.jm_world.specs.Objects.{Object}
use Rattle.jm_world.specs.Resolution.{instance_along, select, select_special}
use Rattle.jm_world.specs.Stepping.{row}
use Rattle.jm_world.specs.Types.{ObjectType, instance_of, array_of, class_type, type_of_object}
use Rattle.jm_linked.specs.Links.{is_class_call}
use Rattle.jm_linked.specs.PrintStreams.{print_name, print_type}
use Rattle.jm_linked.specs.declared.instruction.Printed.TheVariants.{Int, Long, Char, String}
use Rattle.jm_linked.specs.declared.instruction.PrintMethod.{PrintMethod}
use Rattle.jm_linked.specs.declared.instruction.PrintMethod.TheVariants.{Print, Println, EndLine}
use Rattle.jm_linked.proofs.BuiltIns.{built_in_class}
use Rattle.jm_linked.proofs.PrintStreams.{no_stream, print_ref}
use Rattle.jm_linked.proofs.SystemOut.{taller}

-- a print stream's class is the first of its chain, and declares the method
abbrev chain_of : ℕ → List ClassParts → Option ClassParts → List ClassParts
chain_of n program o = elim o [ None ↦ [] | Some c ↦ elim c.superclass [ None ↦ c ∷ [] | Some s ↦ c ∷ up_from n program s ] ]

begins : (program : List ClassParts) → Loads program → (cs : List ClassParts) × (chain program print_stream_class ≡ as_class print_stream ∷ cs)
unfolding chain
begins program loads = (
  _,
  ap (λ n. up_from n program print_stream_class) (taller program)
      ∙ ap (chain_of (length program + 28) program) (built_in_class program loads print_stream_class refl),
)

both_find : (cs : List ClassParts) (p : PrintMethod) → instance_along true (as_class print_stream ∷ cs) (print_name p) (print_type p)
    ≡ instance_along false (as_class print_stream ∷ cs) (print_name p) (print_type p)
both_find cs (Print Int) = refl
both_find cs (Print Long) = refl
both_find cs (Print Char) = refl
both_find cs (Print String) = refl
both_find cs (Println Int) = refl
both_find cs (Println Long) = refl
both_find cs (Println Char) = refl
both_find cs (Println String) = refl
both_find cs EndLine = refl

selected_specially : (program : List ClassParts) → Loads program → (p : PrintMethod) → select_special program print_stream_class (print_name p) (print_type p)
    ≡ select program print_stream_class (print_name p) (print_type p)
unfolding select select_special
selected_specially program loads p =
    let first = begins program loads in
    ap (λ cs. instance_along true cs (print_name p) (print_type p)) first.1
    ∙ both_find first.0 p
    ∙ ap (λ cs. instance_along false cs (print_name p) (print_type p)) (sym first.1)

-- no class is below it, so the search begins at it
starts_there : (here : Here) → Loads here.world.program → special_class here print_stream_class ≡ print_stream_class
starts_there here loads = by (same_text here.method.class print_stream_class) refl
  where
    start : Bool → Bool → List ℕ
    start itself below = elim (not itself && below) [
      | true ↦ superclass_of (class_named here.world.program here.method.class) print_stream_class
      | false ↦ print_stream_class
    ]

    by : (b : Bool) → same_text here.method.class print_stream_class ≡ b
        → start (same_text here.method.class print_stream_class) (is_subclass here.world.program here.method.class print_stream_class) ≡ print_stream_class
    by true e = ap (λ b. start b (is_subclass here.world.program here.method.class print_stream_class)) e
    by false e =
        ap (λ b. start b (is_subclass here.world.program here.method.class print_stream_class)) e
        ∙ ap (start false) (no_stream here.world.program loads here.method.class e)

by_name : (here : Here) (p : PrintMethod) → found_special here print_stream_class (print_ref p)
    ≡ select_special here.world.program (special_class here print_stream_class) (print_name p) (print_type p)
by_name here (Print k) = refl
by_name here (Println k) = refl
by_name here EndLine = refl

found_is : (here : Here) → Loads here.world.program → (p : PrintMethod) → found_special here print_stream_class (print_ref p)
    ≡ select here.world.program print_stream_class (print_name p) (print_type p)
found_is here loads p =
    by_name here p
    ∙ ap (λ c. select_special here.world.program c (print_name p) (print_type p)) (starts_there here loads)
    ∙ selected_specially here.world.program loads p

-- an object of the class is a print stream
its_class : (program : List ClassParts) → Loads program → (t : ObjectType) → is_assignable program (type_of_object t) (class_type print_stream_class) ≡ true
    → class_of t ≡ print_stream_class
its_class program loads (instance_of c) e = by (same_text c print_stream_class) refl
  where
    by : (b : Bool) → same_text c print_stream_class ≡ b → c ≡ print_stream_class
    by true t = text_is c print_stream_class t
    by false t = let bad : true ≡ false = sym e ∙ no_stream program loads c t in cc
its_class program loads (array_of component) e =
    let bad : true ≡ false =
    sym e ∙ ap (λ n. dimensions_assignable program component.element (Class print_stream_class) n 0) (add-one component.dimensions) in
    cc

specially : (here : Here) → Loads here.world.program → (p : PrintMethod) → row here (instr.Invoke Special (print_ref p))
    ≡ row here (instr.Invoke Virtual (print_ref p))
specially here loads p = λ i. with_receiver here (print_ref p) (λ k o arguments s. same k o arguments s i)
  where
    calls : Bool → Option FoundMethod → ℕ → List Value → List Value → Next
    calls of found k arguments s = elim of [ false ↦ faults WrongKind | true ↦ call_found here found k arguments s ]

    by : (o : Object) (k : ℕ) (arguments s : List Value) (b : Bool) → is_of_class here o print_stream_class ≡ b
        → calls b (found_special here print_stream_class (print_ref p)) k arguments s
        ≡ calls b (select here.world.program (class_of o.type) (print_name p) (print_type p)) k arguments s
    by o k arguments s false e = refl
    by o k arguments s true e =
        ap (λ f. call_found here f k arguments s) (found_is here loads p
        ∙ ap (λ c. select here.world.program c (print_name p) (print_type p)) (sym (its_class here.world.program loads o.type e)))

    same : (k : ℕ) (o : Object) (arguments s : List Value)
        → calls (is_of_class here o print_stream_class) (found_special here print_stream_class (print_ref p)) k arguments s
        ≡ calls (is_of_class here o print_stream_class) (select here.world.program (class_of o.type) (print_name p) (print_type p)) k arguments s
    same k o arguments s = by o k arguments s (is_of_class here o print_stream_class) refl

-- the row by either instruction is the one of invokevirtual
pub either_way : (here : Here) (p : PrintMethod) → Loads here.world.program → (op : InvokeOp) → is_class_call op ≡ true
    → row here (instr.Invoke op (print_ref p)) ≡ row here (instr.Invoke Virtual (print_ref p))
either_way here p loads Virtual e = refl
either_way here p loads Special e = specially here loads p
either_way here p loads Static e = cc
either_way here p loads Interface e = cc
