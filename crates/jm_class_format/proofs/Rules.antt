-- A class that bytes spell keeps the rules of a class.
use Rattle.std.proofs.Common.{◌≡◌, ℕ, Bool, true, ◌&&◌, List, subst}
use Rattle.std.specs.List.{list_all}
use Rattle.std.proofs.lemmas.Bool.{and_from}
use Rattle.jm_program.specs.Flags.{is_interface}
use Rattle.jm_program.specs.Names.{is_class_name}
use Rattle.jm_program.specs.Fits.{Fits, version_fits, superclass_fits, field_fits, method_fits}
use Rattle.jm_program.specs.declared.class.ClassParts.{ClassParts}
use Rattle.jm_program.proofs.Truths.{both_true}
use Rattle.jm_class_format.specs.ClassFile.{Spells, class, class_fits, parts_of}
use Rattle.jm_class_format.proofs.Kept.{guard_held}

pub fits_of : (c : ClassParts) → class_fits c ≡ true → Fits c
unfolding class_fits
fits_of c h =
    let version : Bool = version_fits c.version in
    let name : Bool = is_class_name c.name in
    let superclass : Bool = superclass_fits c.name c.superclass in
    let interfaces : Bool = list_all is_class_name c.interfaces in
    let fields : Bool = list_all field_fits c.fields in
    let methods : Bool = list_all (method_fits (is_interface c.flags)) c.methods in
    let to_fields = both_true (version && name && superclass && interfaces && fields) methods h in
    let to_interfaces = both_true (version && name && superclass && interfaces) fields to_fields.0 in
    let to_superclass = both_true (version && name && superclass) interfaces to_interfaces.0 in
    let to_name = both_true (version && name) superclass to_superclass.0 in
    let to_version = both_true version name to_name.0 in
    record { version = to_version.0; name = to_version.1; superclass = to_name.1; interfaces = to_superclass.1; fields = to_interfaces.1; methods = to_fields.1 }

pub of_fits : (c : ClassParts) → Fits c → class_fits c ≡ true
unfolding class_fits
of_fits c h =
    let version : Bool = version_fits c.version in
    let name : Bool = is_class_name c.name in
    let superclass : Bool = superclass_fits c.name c.superclass in
    let interfaces : Bool = list_all is_class_name c.interfaces in
    let fields : Bool = list_all field_fits c.fields in
    let methods : Bool = list_all (method_fits (is_interface c.flags)) c.methods in
    and_from (version && name && superclass && interfaces && fields) methods
    (and_from (version && name && superclass && interfaces) fields
    (and_from (version && name && superclass) interfaces
    (and_from (version && name) superclass (and_from version name h.version h.name) h.superclass) h.interfaces) h.fields) h.methods

pub spelled_fits : (bytes : List ℕ) (c : ClassParts) → Spells bytes c → Fits c
unfolding class
spelled_fits bytes c h =
    let after_body = h.second.second.second.second in
    let held : class_fits (parts_of h.value h.second.second.value h.second.second.second.value) ≡ true =
    guard_held (class_fits (parts_of h.value h.second.second.value h.second.second.second.value)) after_body.first.1 in
    subst Fits after_body.second.1 (fits_of (parts_of h.value h.second.second.value h.second.second.second.value) held)
