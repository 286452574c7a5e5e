-- getstatic of System.out in the model.
use Rattle.std.proofs.Common.{◌≡◌, ℕ, ◌+◌, List, [], ◌∷◌, Option, Some, None, true, false, refl, sym, ap, ◌∙◌, length, suc, arith}
use Rattle.std.specs.Prelude.{codes, ◌&&◌, nat_eq}
use Rattle.std.specs.Cmp.Lexicographic as texts
use Rattle.std.proofs.lemmas.Bool.{eqb-true}
use Rattle.jm_program.specs.Names.{same_text}
use Rattle.jm_program.specs.declared.class.ClassParts.{ClassParts}
use Rattle.jm_program.specs.declared.descriptor.FieldType.{FieldType}
use Rattle.jm_program.specs.declared.descriptor.ElementType.{ElementType}
use Rattle.jm_program.specs.declared.descriptor.ElementType.TheVariants.{Base, Class}
use Rattle.jm_program.specs.declared.instruction.operation.FieldOp.TheVariants.{GetStatic}
use Rattle.jm_program.specs.declared.reference.ClassRef.{ClassRef}
use Rattle.jm_program.specs.declared.reference.ClassRef.TheVariants as named
use Rattle.jm_program.specs.declared.reference.FieldRef.{FieldRef}
use Rattle.jm_program.proofs.Truths.{right_true, left_true}
use Rattle.jm_builtins.specs.List.{system}
use Rattle.jm_values.specs.declared.value.Value.{Value}
use Rattle.jm_world.specs.Types.{class_type, same_type, same_element}
use Rattle.jm_world.specs.Classes.{FoundField, class_named, field_in, as_class, system_class, print_stream_class, height}
use Rattle.jm_world.specs.Resolution.{resolve_field, field_from, nameable, first_found, interfaces_first}
use Rattle.jm_world.specs.Fields.{name_of_field, row_field, get_static}
use Rattle.jm_world.specs.Here.{Here, push, is_ready, when_initialized, push_frame, all_frames}
use Rattle.jm_world.specs.Frames.{initialization_frame}
use Rattle.jm_world.specs.Next.{Next, faults}
use Rattle.jm_world.specs.Loads.{Loads}
use Rattle.jm_world.specs.Loading.{out_field}
use Rattle.jm_world.specs.World.{state_of, state_in, static_in}
use Rattle.jm_world.specs.declared.class_state.ClassState.{ClassState}
use Rattle.jm_world.specs.declared.class_state.ClassState.TheVariants.{Done}
use Rattle.jm_world.specs.declared.stage.Stage.TheVariants.{Begin}
use Rattle.jm_values.specs.declared.fault.TagFault.TheVariants.{WrongKind}
use Rattle.jm_linked.specs.PrintStreams.{is_class_called, is_system_out}
use Rattle.jm_linked.specs.Named.{named_states}
use Rattle.jm_linked.proofs.BuiltIns.{AreOthers, built_in_class}

-- a type that is a class's is that type
element_is : (e : ElementType) (name : List ℕ) → same_element e (Class name) ≡ true → e ≡ Class name
element_is (Base b) name h = cc
element_is (Class m) name h = ap Class (texts.same_text m name (sym h))

pub type_is : (t : FieldType) (name : List ℕ) → same_type t (class_type name) ≡ true → t ≡ class_type name
type_is t name h =
    let d : t.dimensions ≡ 0 = eqb-true t.dimensions 0 (left_true (nat_eq t.dimensions 0) (same_element t.element (Class name)) h) in
    let e = element_is t.element name (right_true (nat_eq t.dimensions 0) (same_element t.element (Class name)) h) in
    ap (λ n. let x : FieldType = record { dimensions = n; element = t.element } in x) d ∙ ap
    (λ n. let x : FieldType = record { dimensions = 0; element = n } in x) e

pub class_is : (c : ClassRef) (name : List ℕ) → is_class_called c name ≡ true → c ≡ named.Class name
class_is (named.Class m) name h = ap named.Class (texts.same_text m name (sym h))
class_is (named.Array t) name h = cc

pub ref_is : (f : FieldRef) → is_system_out f ≡ true → f ≡ record
    { class = named.Class system_class; name = codes "out"; descriptor = class_type print_stream_class }
ref_is f h =
    let a = left_true (is_class_called f.class system_class) (same_text f.name (codes "out"))
    (left_true (is_class_called f.class system_class && same_text f.name (codes "out")) (same_type f.descriptor (class_type print_stream_class)) h) in
    let b = right_true (is_class_called f.class system_class) (same_text f.name (codes "out"))
    (left_true (is_class_called f.class system_class && same_text f.name (codes "out")) (same_type f.descriptor (class_type print_stream_class)) h) in
    let d = right_true (is_class_called f.class system_class && same_text f.name (codes "out")) (same_type f.descriptor (class_type print_stream_class)) h in
    ap (λ x. let r : FieldRef = record f { class = x } in r) (class_is f.class system_class a)
    ∙ ap (λ x. let r : FieldRef = record f { class = named.Class system_class; name = x } in r) (texts.same_text f.name (codes "out") (sym b))
    ∙ ap (λ x. let r : FieldRef = record { class = named.Class system_class; name = codes "out"; descriptor = x } in r)
    (type_is f.descriptor print_stream_class d)

pub system_is : (program : List ClassParts) → Loads program → class_named program system_class ≡ Some (as_class system)
system_is program loads = built_in_class program loads system_class refl

field_of : ℕ → List ClassParts → Option ClassParts → Option FoundField
field_of n program o = elim o [
  | None ↦ None
  | Some c ↦ elim (field_in (nameable c) (codes "out") (class_type print_stream_class)) [
    | Some f ↦ Some (record { class = c; field = f })
    | None ↦ first_found
        (λ above. field_from n program (codes "out") (class_type print_stream_class) above) (interfaces_first c)
  ]
]

pub taller : (program : List ClassParts) → height program ≡ suc (length program + 28)
taller program = omega arith

pub out_resolves : (program : List ClassParts) → Loads program → (found : FoundField) ×
    (resolve_field program system_class (codes "out") (class_type print_stream_class) ≡ Some found) × (name_of_field found ≡ out_field)
unfolding resolve_field field_of
out_resolves program loads = (
  _,
  ap (λ n. field_from n program (codes "out") (class_type print_stream_class) system_class) (taller program) ∙ ap
      (field_of (length program + 28) program) (system_is program loads),
  refl,
)

-- a class that is not listed is done
pub not_listed : (text : List ℕ) (cs : List ClassParts) (ss : List ClassState) → AreOthers text cs → state_in (named_states cs ss) text ≡ Done
not_listed text [] ss h = refl
not_listed text (c ∷ cs) [] h = refl
not_listed text (c ∷ cs) (s ∷ ss) h = ap (λ b. elim b as (λ _. ClassState) [ true ↦ s | false ↦ state_in (named_states cs ss) text ]) h.0 ∙ not_listed text
    cs ss h.1

-- System.out is pushed
pub system_out_row : (here : Here) (f : FieldRef) (v : Value) → Loads here.world.program → is_system_out f ≡ true → state_of here.world system_class ≡ Done
    → static_in here.world.statics out_field ≡ Some v → row_field here GetStatic f ≡ push here v here.frame.stack
system_out_row here f v loads is done value =
    let found = out_resolves here.world.program loads in
    ap (row_field here GetStatic) (ref_is f is)
    ∙ ap (λ o. elim o as (λ _. Next) [
      | None ↦ faults WrongKind
      | Some x ↦ when_initialized here (name_of_field x).class
          (get_static here (name_of_field x))
    ]) found.1
    ∙ ap (λ n. when_initialized here n.class (get_static here n)) found.2
    ∙ ap (λ s. elim (is_ready s here.number) as (λ _. Next) [
      | true ↦ get_static here out_field
      | false ↦ push_frame here.world here.number here.thread (all_frames here)
          (initialization_frame system_class Begin)
    ]) done
    ∙ ap (λ o. elim o as (λ _. Next) [ None ↦ faults WrongKind | Some x ↦ push here x here.frame.stack ]) value
