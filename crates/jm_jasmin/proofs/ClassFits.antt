-- The class that is read from lines keeps the rules of a class.
use Rattle.std.proofs.Common.{◌≡◌, ℕ, Bool, true, not, ◌&&◌, nat_le, List, Option, Some, None, Ok, subst, length}
use Rattle.std.specs.Prelude.{codes}
use Rattle.std.specs.List.{list_all}
use Rattle.std.proofs.lemmas.Bool.{and_from, not_from_false}
use Rattle.jm_bytes.specs.Laws.{and_then_ok, same_Ok}
use Rattle.jm_program.specs.Flags.{is_abstract, is_static, is_native, is_interface, is_synchronized}
use Rattle.jm_program.specs.Names.{is_method_name}
use Rattle.jm_program.specs.Descriptors.{is_method_type, is_kept_method_type}
use Rattle.jm_program.specs.Fits.{Fits, is_finalizer, is_class_initializer, method_slots, body_fits, method_fits, field_fits}
use Rattle.jm_program.specs.Codes.{code_fits}
use Rattle.jm_program.specs.declared.class.Field.{Field}
use Rattle.jm_program.specs.declared.class.Method.{Method}
use Rattle.jm_program.specs.declared.code.Code.{Code}
use Rattle.jm_jasmin_lex.specs.Token.{TokenParts}
use Rattle.jm_jasmin_lex.specs.Lines.{first_line}
use Rattle.jm_jasmin_ops.specs.declared.fault.AsmFault.{AsmFault}
use Rattle.jm_jasmin.specs.declared.header.Header.{Header}
use Rattle.jm_jasmin.specs.Lines.{begins, line_number, by_line, required}
use Rattle.jm_jasmin.specs.Items.{items_of}
use Rattle.jm_jasmin.specs.Body.{code_of}
use Rattle.jm_jasmin.specs.MethodHeader.{method_line}
use Rattle.jm_jasmin.specs.Methods.{end_line, with_code, method_body, method, methods}
use Rattle.jm_jasmin.specs.Text.{parts_of}
use Rattle.jm_jasmin.proofs.Readings.{by_line_is, list_keeps}
use Rattle.jm_jasmin.proofs.HeaderFits.{HeaderFits}
use Rattle.jm_jasmin.proofs.DeclarationFits.{Declares, kept_of, abstract_kept, code_by, method_line_kept}
use Rattle.jm_jasmin.proofs.ItemsFit.{items_keep}
use Rattle.jm_jasmin.proofs.CodeFits.{CodeKept, code_kept}

-- ---- a method

body_kept : (in_interface : Bool) (m : Method) (o : Option Code) → Declares in_interface m → CodeKept m o → body_fits in_interface m o ≡ true
body_kept in_interface m None declared kept = abstract_kept m kept declared.1
body_kept in_interface m (Some code) declared kept =
    code_by (is_abstract m.flags) in_interface (is_class_initializer m) (code_fits (method_slots m) code) kept.0 (kept_of in_interface m declared.2).2 kept.1

method_rules : (in_interface : Bool) (m : Method) (o : Option Code) → Declares in_interface m → CodeKept m o → method_fits in_interface (with_code m o) ≡ true
method_rules in_interface m o declared code =
    let n = declared.0 in
    let kept = kept_of in_interface m declared.2 in
    let name : Bool = is_method_name m.name in
    let type : Bool = is_method_type m.descriptor in
    let known : Bool = is_kept_method_type m.descriptor in
    let few : Bool = nat_le (method_slots m) 255 in
    let native : Bool = not (is_native m.flags) in
    let alone : Bool = not (is_static m.flags && is_synchronized m.flags) in
    let other : Bool = not (is_finalizer m) in
    and_from (name && type && known && few && native && alone && other) (body_fits in_interface m o)
    (and_from (name && type && known && few && native && alone) other
    (and_from (name && type && known && few && native) alone
    (and_from (name && type && known && few) native
    (and_from (name && type && known) few (and_from (name && type) known (and_from name type n.1 n.2.0) n.2.1) n.2.2)
    (not_from_false (is_native m.flags) n.0))
    (not_from_false (is_static m.flags && is_synchronized m.flags) kept.0))
    (not_from_false (is_finalizer m) kept.1))
    (body_kept in_interface m o declared code)

body_rules : (in_interface : Bool) (line : ℕ) (m : Method) (ts : List TokenParts) (p : Method × List TokenParts) → Declares in_interface m → method_body line m ts ≡ Ok p → method_fits in_interface p.0 ≡ true
unfolding method_body
body_rules in_interface line m ts p declared h =
    let items = and_then_ok (items_of m ts) _ p h in
    let end = and_then_ok (required (codes ".end") end_line items.0.1) _ p items.2 in
    let code = and_then_ok (code_of m line end.0.0 items.0.0) _ p end.2 in
    let made : Method × List TokenParts = (with_code m code.0, end.0.1) in
    subst (λ (q : Method × List TokenParts). method_fits in_interface q.0 ≡ true) (same_Ok {F = AsmFault} made p code.2)
    (method_rules in_interface m code.0 declared (code_kept m line end.0.0 items.0.0 code.0 (items_keep m ts items.0 items.1) code.1))

method_kept : (in_interface : Bool) (ts : List TokenParts) (p : Method × List TokenParts) → method in_interface ts ≡ Ok p → method_fits in_interface p.0 ≡ true
unfolding method
method_kept in_interface ts p h =
    let a = and_then_ok (by_line (method_line in_interface) ts) (λ x. method_body (line_number ts) x.0 x.1) p h in
    body_rules in_interface (line_number ts) a.0.0 a.0.1 p (method_line_kept in_interface (first_line ts).0 a.0.0 (by_line_is (method_line in_interface) ts a.0 a.1)) a.2

pub methods_fit : (in_interface : Bool) (ts : List TokenParts) (p : List Method × List TokenParts) → methods in_interface ts ≡ Ok p → list_all (method_fits in_interface) p.0 ≡ true
unfolding methods
methods_fit in_interface ts p h = list_keeps (method_fits in_interface) (begins (codes ".method")) (method in_interface) (method_kept in_interface) (length ts) ts p h

-- ---- the class

pub class_keeps : (h : Header) (fs : List Field) (ms : List Method) → HeaderFits h → list_all field_fits fs ≡ true → list_all (method_fits (is_interface h.flags)) ms ≡ true → Fits (parts_of h fs ms)
class_keeps h fs ms header fields methods = record { version = header.0; name = header.1; superclass = header.2; interfaces = header.3; fields = fields; methods = methods }
