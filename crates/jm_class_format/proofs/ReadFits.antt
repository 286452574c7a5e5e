-- What is read of a class file keeps the rules of a class, so that the last test of the definition never fails.
use Rattle.std.proofs.Common.{◌≡◌, ℕ, zero, suc, Bool, true, List, Option, Some, None, Ok, subst}
use Rattle.std.specs.Prelude.{codes}
use Rattle.std.specs.List.{list_all}
use Rattle.jm_bytes.specs.Laws.{and_then_ok, same_Ok}
use Rattle.jm_program.specs.Flags.{is_interface}
use Rattle.jm_program.specs.Names.{is_class_name, same_text}
use Rattle.jm_program.specs.Fits.{Fits, version_fits, superclass_fits, field_fits, method_fits}
use Rattle.jm_program.specs.declared.class.Version.{Version}
use Rattle.jm_program.specs.declared.class.ClassParts.{ClassParts}
use Rattle.jm_class_format.specs.declared.constant_pool.Entry.{Entry}
use Rattle.jm_class_format.specs.declared.read_fault.ReadFault.{ReadFault}
use Rattle.jm_class_format.specs.FileFaults.{bad_index}
use Rattle.jm_class_format.specs.NamedCode.{class_name_at}
use Rattle.jm_class_format.specs.ClassFile.{version, class_name, superclass_at, superclass, interfaces, Head, head, Body, body, parts_of, class_fits, class}
use Rattle.jm_class_format.proofs.Kept.{guard_held, passed, many_keep}
use Rattle.jm_class_format.proofs.InstructionsFit.{class_name_kept}
use Rattle.jm_class_format.proofs.MembersFit.{fields_fit, methods_fit}
use Rattle.jm_class_format.proofs.Rules.{of_fits, spelled_fits}

-- ---- the version

version_kept : (bytes : List ℕ) (v : Version) → version.Spells bytes v → version_fits v ≡ true
unfolding version
version_kept bytes v h =
    let minor = h.second.second in
    let major = minor.second in
    let made : Version = record { major = major.value; minor = minor.value } in
    subst (λ (x : Version). version_fits x ≡ true) {x = made} major.second.second.1 (guard_held (version_fits made) major.second.first.1)

pub version_read_fits : (bytes : List ℕ) (v : Version) (rest : List ℕ) → version.read bytes ≡ Ok (v, rest) → version_fits v ≡ true
version_read_fits bytes v rest h = let spelled = version.sound bytes v rest h in version_kept spelled.0 v spelled.2

-- ---- the class, its superclass and its interfaces

name_kept : (es : List Entry) (bytes : List ℕ) (name : List ℕ) → (class_name es).Spells bytes name → is_class_name name ≡ true
unfolding class_name
name_kept es bytes name h = class_name_kept es h.value name h.second.1

superclass_at_kept : (es : List Entry) (name : List ℕ) (index : ℕ) (super : Option (List ℕ)) → superclass_at es name index ≡ Ok super → superclass_fits name super ≡ true
unfolding superclass_at
superclass_at_kept es name zero super h =
    let none : Option (List ℕ) = None in
    let p = passed (same_text name (codes "java/lang/Object")) none super (bad_index 0) h in
    subst (λ (o : Option (List ℕ)). superclass_fits name o ≡ true) p.1 p.0
superclass_at_kept es name (suc i) super h =
    let a = and_then_ok (class_name_at es (suc i)) _ super h in
    subst (λ (o : Option (List ℕ)). superclass_fits name o ≡ true) (same_Ok {F = ReadFault} (Some a.0) super a.2) (class_name_kept es (suc i) a.0 a.1)

superclass_kept : (es : List Entry) (name bytes : List ℕ) (super : Option (List ℕ)) → (superclass es name).Spells bytes super → superclass_fits name super ≡ true
unfolding superclass
superclass_kept es name bytes super h = superclass_at_kept es name h.value super h.second.1

interfaces_kept : (es : List Entry) (bytes : List ℕ) (names : List (List ℕ)) → (interfaces es).Spells bytes names → list_all is_class_name names ≡ true
unfolding interfaces
interfaces_kept es bytes names h = many_keep is_class_name (class_name es) (name_kept es) h.value h.back names h.second

-- the names of a class, of its superclass and of its interfaces are such
abbrev pub HeadFits : Head → Type 0
HeadFits h = (is_class_name h.name ≡ true) × (superclass_fits h.name h.superclass ≡ true) × (list_all is_class_name h.interfaces ≡ true)

head_kept : (es : List Entry) (bytes : List ℕ) (h : Head) → (head es).Spells bytes h → HeadFits h
unfolding head
head_kept es bytes h spelled =
    let named = spelled.second in
    let above = named.second in
    let beside = above.second in
    subst HeadFits beside.second.1
    (name_kept es named.front named.value named.first, superclass_kept es named.value above.front above.value above.first, interfaces_kept es beside.front beside.value beside.first)

pub head_read_fits : (es : List Entry) (bytes : List ℕ) (h : Head) (rest : List ℕ) → (head es).read bytes ≡ Ok (h, rest) → HeadFits h
head_read_fits es bytes h rest read = let spelled = (head es).sound bytes h rest read in head_kept es spelled.0 h spelled.2

-- ---- fields and methods

-- each field and each method is one that a class, or an interface, can declare
abbrev pub BodyFits : Bool → Body → Type 0
BodyFits in_interface b = (list_all field_fits b.fields ≡ true) × (list_all (method_fits in_interface) b.methods ≡ true)

body_kept : (es : List Entry) (in_interface : Bool) (bytes : List ℕ) (b : Body) → (body es in_interface).Spells bytes b → BodyFits in_interface b
unfolding body
body_kept es in_interface bytes b spelled =
    let after = spelled.second in
    subst (BodyFits in_interface) after.second.second.1 (fields_fit es spelled.front spelled.value spelled.first, methods_fit es in_interface after.front after.value after.first)

pub body_read_fits : (es : List Entry) (in_interface : Bool) (bytes : List ℕ) (b : Body) (rest : List ℕ) → (body es in_interface).read bytes ≡ Ok (b, rest) → BodyFits in_interface b
body_read_fits es in_interface bytes b rest read = let spelled = (body es in_interface).sound bytes b rest read in body_kept es in_interface spelled.0 b spelled.2

-- ---- the class

-- what is read of the three keeps the rules, whatever stands between them
pub read_keeps_rules : (es : List Entry) (v_bytes h_bytes b_bytes : List ℕ) (v : Version) (h : Head) (b : Body) (v_rest h_rest b_rest : List ℕ)
    → version.read v_bytes ≡ Ok (v, v_rest) → (head es).read h_bytes ≡ Ok (h, h_rest) → (body es (is_interface h.access)).read b_bytes ≡ Ok (b, b_rest) → Fits (parts_of v h b)
read_keeps_rules es v_bytes h_bytes b_bytes v h b v_rest h_rest b_rest v_read h_read b_read =
    let names = head_read_fits es h_bytes h h_rest h_read in
    let members = body_read_fits es (is_interface h.access) b_bytes b b_rest b_read in
    record { version = version_read_fits v_bytes v v_rest v_read; name = names.0; superclass = names.1; interfaces = names.2; fields = members.0; methods = members.1 }

-- the same as the test of the definition
pub read_class_fits : (es : List Entry) (v_bytes h_bytes b_bytes : List ℕ) (v : Version) (h : Head) (b : Body) (v_rest h_rest b_rest : List ℕ)
    → version.read v_bytes ≡ Ok (v, v_rest) → (head es).read h_bytes ≡ Ok (h, h_rest) → (body es (is_interface h.access)).read b_bytes ≡ Ok (b, b_rest) → class_fits (parts_of v h b) ≡ true
read_class_fits es v_bytes h_bytes b_bytes v h b v_rest h_rest b_rest v_read h_read b_read =
    of_fits (parts_of v h b) (read_keeps_rules es v_bytes h_bytes b_bytes v h b v_rest h_rest b_rest v_read h_read b_read)

-- a class that is read keeps them
pub class_keeps_rules : (bytes : List ℕ) (c : ClassParts) (rest : List ℕ) → class.read bytes ≡ Ok (c, rest) → Fits c
class_keeps_rules bytes c rest read = let spelled = class.sound bytes c rest read in spelled_fits spelled.0 c spelled.2
