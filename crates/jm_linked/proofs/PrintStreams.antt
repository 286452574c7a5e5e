-- Print streams in the model.
use Rattle.std.proofs.Common.{◌≡◌, ℕ, zero, suc, ◌+◌, List, [], ◌∷◌, ◌++◌, Option, Some, None, Bool, true, false, refl, sym, ap, ◌∙◌, length, drop, arith}
use Rattle.std.specs.Prelude.{map, slice_get, unwrap_or, ◌&&◌, ◌||◌, nat_eq, not, option_to_list}
use Rattle.std.specs.List.{list_all}
use Rattle.std.specs.Cmp.Lexicographic as texts
use Rattle.jm_program.specs.Flags.{is_interface}
use Rattle.jm_program.specs.Names.{same_text}
use Rattle.jm_program.specs.Descriptors.{base_letter}
use Rattle.jm_program.specs.declared.class.ClassParts.{ClassParts}
use Rattle.jm_program.specs.declared.descriptor.BaseType.{BaseType}
use Rattle.jm_program.specs.declared.descriptor.BaseType.TheVariants as base
use Rattle.jm_program.specs.declared.descriptor.ElementType.{ElementType}
use Rattle.jm_program.specs.declared.descriptor.ElementType.TheVariants.{Base, Class}
use Rattle.jm_program.specs.declared.descriptor.FieldType.{FieldType}
use Rattle.jm_program.specs.declared.descriptor.MethodDescriptor.{MethodDescriptor}
use Rattle.jm_program.specs.declared.reference.ClassRef.TheVariants as named
use Rattle.jm_program.specs.declared.reference.MethodRef.{MethodRef}
use Rattle.jm_program.proofs.Truths.{right_true, left_true, not_true}
use Rattle.jm_builtins.specs.declared.built_in.BuiltIn.{BuiltIn}
use Rattle.jm_builtins.specs.List.{the_builtins, print_stream}
use Rattle.jm_world.specs.Types.{same_type, same_types, same_result, same_element, same_method_type}
use Rattle.jm_world.specs.Classes.{class_named, class_among, built_in_named, height, as_class, print_stream_class, string_class, system_class, object_class}
use Rattle.jm_world.specs.Hierarchy.{chain, up_from, is_subclass, is_below, holds_of_any, parents}
use Rattle.jm_world.specs.Resolution.{select, instance_along}
use Rattle.jm_world.specs.Loads.{Loads, refusal, first_of_all, wrong_kind, is_sealed, is_strange_interface}
use Rattle.jm_world.specs.Loads.{superclass_of_kind, superclass_refusal, interface_of_kind, parents_refusal}
use Rattle.jm_world.proofs.Refusing.{both_none, not_refused}
use Rattle.jm_linked.specs.PrintStreams.{is_class_called, is_print, print_name, print_type, printed_type}
use Rattle.jm_linked.specs.Links.{class_name_of}
use Rattle.jm_linked.specs.declared.instruction.Printed.{Printed}
use Rattle.jm_linked.specs.declared.instruction.Printed.TheVariants as printed
use Rattle.jm_linked.specs.declared.instruction.PrintMethod.{PrintMethod}
use Rattle.jm_linked.specs.declared.instruction.PrintMethod.TheVariants.{Print, Println, EndLine}
use Rattle.std.proofs.lemmas.Bool.{eqb-true, not_from_false, or_parts}
use Rattle.jm_linked.proofs.SystemOut.{class_is, taller}
use Rattle.jm_linked.proofs.BuiltIns.{AreOthers, others, built_in_class}

-- the type of a print by its parts
int_is : (b : BaseType) → nat_eq (base_letter b) (base_letter base.Int) ≡ true → b ≡ base.Int
int_is base.Byte h = cc
int_is base.Char h = cc
int_is base.Double h = cc
int_is base.Float h = cc
int_is base.Int h = refl
int_is base.Long h = cc
int_is base.Short h = cc
int_is base.Boolean h = cc

long_is : (b : BaseType) → nat_eq (base_letter b) (base_letter base.Long) ≡ true → b ≡ base.Long
long_is base.Byte h = cc
long_is base.Char h = cc
long_is base.Double h = cc
long_is base.Float h = cc
long_is base.Int h = cc
long_is base.Long h = refl
long_is base.Short h = cc
long_is base.Boolean h = cc

char_is : (b : BaseType) → nat_eq (base_letter b) (base_letter base.Char) ≡ true → b ≡ base.Char
char_is base.Byte h = cc
char_is base.Char h = refl
char_is base.Double h = cc
char_is base.Float h = cc
char_is base.Int h = cc
char_is base.Long h = cc
char_is base.Short h = cc
char_is base.Boolean h = cc

base_is : (k : Printed) (e : ElementType) → same_element e (printed_type k).element ≡ true → e ≡ (printed_type k).element
base_is printed.Int (Base b) h = ap Base (int_is b h)
base_is printed.Int (Class n) h = cc
base_is printed.Long (Base b) h = ap Base (long_is b h)
base_is printed.Long (Class n) h = cc
base_is printed.Char (Base b) h = ap Base (char_is b h)
base_is printed.Char (Class n) h = cc
base_is printed.String (Base b) h = cc
base_is printed.String (Class n) h = ap Class (texts.same_text n string_class (sym h))

zero_is : (k : Printed) → (printed_type k).dimensions ≡ 0
zero_is printed.Int = refl
zero_is printed.Long = refl
zero_is printed.Char = refl
zero_is printed.String = refl

printed_is : (k : Printed) (t : FieldType) → same_type t (printed_type k) ≡ true → t ≡ printed_type k
printed_is k t h =
    let d : t.dimensions ≡ (printed_type k).dimensions =
    eqb-true t.dimensions (printed_type k).dimensions (left_true (nat_eq t.dimensions (printed_type k).dimensions)
    (same_element t.element (printed_type k).element) h) in
    let e = base_is k t.element (right_true (nat_eq t.dimensions (printed_type k).dimensions) (same_element t.element (printed_type k).element) h) in
    ap (λ n. let x : FieldType = record { dimensions = n; element = t.element } in x) d ∙ ap
    (λ n. let x : FieldType = record { dimensions = (printed_type k).dimensions; element = n } in x) e

one_is : (k : Printed) (ts : List FieldType) → same_types ts (printed_type k ∷ []) ≡ true → ts ≡ printed_type k ∷ []
one_is k [] h = cc
one_is k (t ∷ []) h = ap (λ x. x ∷ []) (printed_is k t (left_true (same_type t (printed_type k)) true h))
one_is k (t ∷ u ∷ ts) h = let bad = right_true (same_type t (printed_type k)) false h in cc

none_is : (ts : List FieldType) → same_types ts [] ≡ true → ts ≡ []
none_is [] h = refl
none_is (t ∷ ts) h = cc

pub void_is : (r : Option FieldType) → same_result r None ≡ true → r ≡ None
void_is None h = refl
void_is (Some t) h = cc

type_is : (p : PrintMethod) (d : MethodDescriptor) → same_method_type d (print_type p) ≡ true → d ≡ print_type p
type_is (Print k) d h =
    ap (λ x. let y : MethodDescriptor = record { parameters = x; return_type = d.return_type } in y)
    (one_is k d.parameters (left_true (same_types d.parameters (printed_type k ∷ [])) (same_result d.return_type None) h))
    ∙ ap (λ x. let y : MethodDescriptor = record { parameters = printed_type k ∷ []; return_type = x } in y)
    (void_is d.return_type (right_true (same_types d.parameters (printed_type k ∷ [])) (same_result d.return_type None) h))
type_is (Println k) d h =
    ap (λ x. let y : MethodDescriptor = record { parameters = x; return_type = d.return_type } in y)
    (one_is k d.parameters (left_true (same_types d.parameters (printed_type k ∷ [])) (same_result d.return_type None) h))
    ∙ ap (λ x. let y : MethodDescriptor = record { parameters = printed_type k ∷ []; return_type = x } in y)
    (void_is d.return_type (right_true (same_types d.parameters (printed_type k ∷ [])) (same_result d.return_type None) h))
type_is EndLine d h =
    ap (λ x. let y : MethodDescriptor = record { parameters = x; return_type = d.return_type } in y)
    (none_is d.parameters (left_true (same_types d.parameters []) (same_result d.return_type None) h))
    ∙ ap (λ x. let y : MethodDescriptor = record { parameters = []; return_type = x } in y)
    (void_is d.return_type (right_true (same_types d.parameters []) (same_result d.return_type None) h))

-- the reference of a print
abbrev pub print_ref : PrintMethod → MethodRef
print_ref p = record { class = named.Class print_stream_class; name = print_name p; descriptor = print_type p }

pub ref_is : (m : MethodRef) (p : PrintMethod) → is_print m p ≡ true → m ≡ print_ref p
ref_is m p h =
    let two = left_true (is_class_called m.class print_stream_class && same_text m.name (print_name p)) (same_method_type m.descriptor (print_type p)) h in
    let c = class_is m.class print_stream_class (left_true (is_class_called m.class print_stream_class) (same_text m.name (print_name p)) two) in
    let n = texts.same_text m.name (print_name p) (sym (right_true (is_class_called m.class print_stream_class) (same_text m.name (print_name p)) two)) in
    let t = type_is p m.descriptor (right_true (is_class_called m.class print_stream_class && same_text m.name (print_name p))
    (same_method_type m.descriptor (print_type p)) h) in
    ap (λ x. let y : MethodRef = record { class = x; name = m.name; descriptor = m.descriptor } in y) c
    ∙ ap (λ x. let y : MethodRef = record { class = named.Class print_stream_class; name = x; descriptor = m.descriptor } in y) n
    ∙ ap (λ x. let y : MethodRef = record { class = named.Class print_stream_class; name = print_name p; descriptor = x } in y) t

-- the class of a print stream
pub stream_is : (program : List ClassParts) → Loads program → class_named program print_stream_class ≡ Some (as_class print_stream)
stream_is program loads = built_in_class program loads print_stream_class refl

-- its classes from it up
chain_of : (n : ℕ) (program : List ClassParts) → Option ClassParts → List ClassParts
chain_of n program o = elim o [ None ↦ [] | Some c ↦ elim c.superclass [ None ↦ c ∷ [] | Some s ↦ c ∷ up_from n program s ] ]

chain_is : (program : List ClassParts) → Loads program → chain program print_stream_class ≡ as_class print_stream ∷ up_from (length program + 28) program
    object_class
unfolding chain chain_of
chain_is program loads =
    ap (λ n. up_from n program print_stream_class) (taller program) ∙ ap (chain_of (length program + 28) program) (stream_is program loads)

pub stream_selects : (program : List ClassParts) → Loads program → (p : PrintMethod) → select program print_stream_class (print_name p)
    (print_type p) ≡ instance_along false (as_class print_stream ∷ up_from (length program + 28) program object_class) (print_name p) (print_type p)
unfolding select
stream_selects program loads p = ap (λ cs. instance_along false cs (print_name p) (print_type p)) (chain_is program loads)

pub stream_below_itself : (program : List ClassParts) → is_subclass program print_stream_class print_stream_class ≡ true
unfolding is_subclass
stream_below_itself program = ap (λ n. is_below n program print_stream_class print_stream_class) (taller program)

-- nothing else is a print stream: no class is right below one
is_other : List ℕ → Bool
is_other name = not (same_text name print_stream_class)

other_parents : List BuiltIn → Bool
other_parents bs = list_all (λ b. list_all is_other (parents (Some (as_class b)))) bs

built_in_parents : (bs : List BuiltIn) (name : List ℕ) → other_parents bs ≡ true → list_all is_other (parents (built_in_named bs name)) ≡ true
unfolding other_parents
built_in_parents [] name e = refl
built_in_parents (b ∷ bs) name e = by (same_text b.name name) refl
    (built_in_parents bs name (right_true (list_all is_other (parents (Some (as_class b)))) (other_parents bs) e))
  where
    by : (c : Bool) → same_text b.name name ≡ c → list_all is_other (parents (built_in_named bs name)) ≡ true → list_all is_other
        (parents (elim c as (λ _. Option ClassParts) [ true ↦ Some (as_class b) | false ↦ built_in_named bs name ])) ≡ true
    by true t h = left_true (list_all is_other (parents (Some (as_class b)))) (other_parents bs) e
    by false t h = h

the_parents : other_parents the_builtins ≡ true
unfolding other_parents is_other
the_parents = refl

all_append : (xs ys : List (List ℕ)) → list_all is_other xs ≡ true → list_all is_other ys ≡ true → list_all is_other (xs ++ ys) ≡ true
all_append [] ys e f = f
all_append (x ∷ xs) ys e f =
    ap (λ b. b && list_all is_other (xs ++ ys)) (left_true (is_other x) (list_all is_other xs) e)
    ∙ all_append xs ys (right_true (is_other x) (list_all is_other xs) e) f

super_other : (program : List ClassParts) (c : ClassParts) (o : Option (List ℕ)) → superclass_refusal program c o ≡ None
    → list_all is_other (option_to_list o) ≡ true
unfolding is_other
super_other program c None e = refl
super_other program c (Some name) e = by (class_named program name) e
  where
    by : (o : Option ClassParts) → superclass_of_kind c name o ≡ None → list_all is_other (option_to_list (Some name)) ≡ true
    by None g = cc
    by (Some above) g =
        let left = (or_parts (is_interface above.flags || is_sealed name) (is_strange_interface c name) (not_refused _ (wrong_kind name) g)).0 in
        let sealed = (or_parts (is_interface above.flags) (is_sealed name) left).1 in
        let other = (or_parts (same_text name string_class || same_text name system_class) (same_text name print_stream_class) sealed).1 in
        ap (λ b. not b && true) other

interface_other : (program : List ClassParts) → Loads program → (name : List ℕ) → interface_of_kind name (class_named program name) ≡ None
    → is_other name ≡ true
unfolding is_other
interface_other program loads name e = by (same_text name print_stream_class) refl
  where
    by : (b : Bool) → same_text name print_stream_class ≡ b → not (same_text name print_stream_class) ≡ true
    by false t = ap not t
    by true t =
        let is : name ≡ print_stream_class = texts.same_text name print_stream_class (sym t) in
        let bad : Some (wrong_kind name) ≡ None =
        sym (ap (interface_of_kind name) (ap (class_named program) is ∙ stream_is program loads)) ∙ e in
        cc

interfaces_other : (program : List ClassParts) → Loads program → (names : List (List ℕ))
    → first_of_all (λ name. interface_of_kind name (class_named program name)) names ≡ None → list_all is_other names ≡ true
interfaces_other program loads [] e = refl
interfaces_other program loads (x ∷ xs) e =
    let parts = both_none (interface_of_kind x (class_named program x)) (first_of_all (λ name. interface_of_kind name (class_named program name)) xs) e in
    ap (λ b. b && list_all is_other xs) (interface_other program loads x parts.0) ∙ interfaces_other program loads xs parts.1

parents_other : (program : List ClassParts) → Loads program → (c : ClassParts) → parents_refusal program c ≡ None → list_all is_other (parents (Some c)) ≡
    true
parents_other program loads c e =
    let parts =
    both_none (superclass_refusal program c c.superclass) (first_of_all (λ name. interface_of_kind name (class_named program name)) c.interfaces) e in
    all_append (option_to_list c.superclass) c.interfaces (super_other program c c.superclass parts.0) (interfaces_other program loads c.interfaces parts.1)

class_parents : (program : List ClassParts) → Loads program → (cs : List ClassParts) (name : List ℕ) → first_of_all (parents_refusal program) cs ≡ None
    → list_all is_other (parents (class_among cs name)) ≡ true
class_parents program loads [] name e = built_in_parents the_builtins name the_parents
class_parents program loads (c ∷ cs) name e =
    let parts = both_none (parents_refusal program c) (first_of_all (parents_refusal program) cs) e in
    by (same_text c.name name) (parents_other program loads c parts.0) (class_parents program loads cs name parts.1)
  where
    by : (b : Bool) → list_all is_other (parents (Some c)) ≡ true → list_all is_other (parents (class_among cs name)) ≡ true
        → list_all is_other (parents (elim b as (λ _. Option ClassParts) [ true ↦ Some c | false ↦ class_among cs name ])) ≡ true
    by true h r = h
    by false h r = r

no_parents_refused : (program : List ClassParts) → Loads program → first_of_all (parents_refusal program) program ≡ None
unfolding refusal
no_parents_refused program loads = (both_none _ _ (both_none _ _ (both_none _ _ loads).1).1).0

none_holds : (test : List ℕ → Bool) → ((x : List ℕ) → same_text x print_stream_class ≡ false → test x ≡ false) → (xs : List (List ℕ)) → list_all is_other
    xs ≡ true → holds_of_any test xs ≡ false
unfolding is_other
none_holds test h [] e = refl
none_holds test h (x ∷ xs) e =
    ap (λ b. elim b as (λ _. Bool) [ true ↦ true | false ↦ holds_of_any test xs ])
    (h x (not_true (same_text x print_stream_class) (left_true (is_other x) (list_all is_other xs) e)))
    ∙ none_holds test h xs (right_true (is_other x) (list_all is_other xs) e)

not_below : (n : ℕ) (program : List ClassParts) → Loads program → (name : List ℕ) → same_text name print_stream_class ≡ false
    → is_below n program name print_stream_class ≡ false
unfolding class_named
not_below zero program loads name e = refl
not_below (suc n) program loads name e =
    ap (λ b. elim b as (λ _. Bool) [
      | true ↦ true
      | false ↦ holds_of_any (λ parent. is_below n program parent print_stream_class)
          (parents (class_named program name))
    ]) e
    ∙ none_holds (λ parent. is_below n program parent print_stream_class) (λ x f. not_below n program loads x f) (parents (class_named program name))
    (class_parents program loads program name (no_parents_refused program loads))

pub no_stream : (program : List ClassParts) → Loads program → (name : List ℕ) → same_text name print_stream_class ≡ false
    → is_subclass program name print_stream_class ≡ false
unfolding is_subclass
no_stream program loads name e = not_below (height program) program loads name e

-- the name of each other class
others_are : (program : List ClassParts) → AreOthers print_stream_class program → list_all is_other (map (λ (c : ClassParts). c.name) program) ≡ true
unfolding is_other
others_are [] h = refl
others_are (c ∷ cs) h = ap (λ b. b && list_all is_other (map (λ (d : ClassParts). d.name) cs)) (not_from_false (same_text c.name print_stream_class) h.0) ∙
    others_are cs h.1

test_at : (xs : List (List ℕ)) (n : ℕ) → list_all is_other xs ≡ true → is_other (unwrap_or (slice_get xs n) []) ≡ true
unfolding is_other
test_at [] n e = refl
test_at (x ∷ xs) zero e = left_true (is_other x) (list_all is_other xs) e
test_at (x ∷ xs) (suc n) e = test_at xs n (right_true (is_other x) (list_all is_other xs) e)

pub other_name : (program : List ClassParts) → Loads program → (n : ℕ) → nat_eq n 5 ≡ false → same_text (class_name_of program n) print_stream_class ≡ false
unfolding class_name_of is_other
other_name program loads zero e = refl
other_name program loads (suc zero) e = refl
other_name program loads (suc (suc zero)) e = refl
other_name program loads (suc (suc (suc zero))) e = refl
other_name program loads (suc (suc (suc (suc zero)))) e = refl
other_name program loads (suc (suc (suc (suc (suc zero))))) e = cc
other_name program loads (suc (suc (suc (suc (suc (suc n)))))) e =
    not_true _ (test_at (map (λ (b : BuiltIn). b.name) (drop 6 the_builtins) ++ map (λ (c : ClassParts). c.name) program) n
    (all_append (map (λ (b : BuiltIn). b.name) (drop 6 the_builtins)) (map (λ (c : ClassParts). c.name) program) refl
    (others_are program (others program loads print_stream_class refl))))
