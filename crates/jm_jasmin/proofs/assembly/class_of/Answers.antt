use Rattle.std.proofs.Common.{◌≡◌, Bool, true, sym, subst}
use Rattle.std.specs.List.{list_all}
use Rattle.jm_program.specs.Flags.{is_interface}
use Rattle.jm_program.specs.Fits.{Fits, method_fits}
use Rattle.jm_jasmin.proofs.HeaderFits.{header_fits}
use Rattle.jm_jasmin.proofs.FieldsFit.{fields_fit}
use Rattle.jm_jasmin.proofs.ClassFits.{methods_fit, class_keeps}
use Rattle.jm_jasmin.proofs.assembly.class_of.Goals as goal

pub returns-in-Ok-text_ends-clause-fits : goal.returns-in-Ok-text_ends-clause-fits
returns-in-Ok-text_ends-clause-fits c =
    let header = header_fits _ (c.in_ok-header.header, c.read_header.new.lines) c.in_ok-header.ensures in
    let fields = fields_fit _ (c.in-Ok.fields.items, c.fields.new.lines) c.in-Ok.ensures in
    let methods = methods_fit c.has-in_interface.result _ (c.in-Ok-methods.methods.items, c.methods.new.lines) c.in-Ok-methods.ensures in
    let all : list_all (method_fits (is_interface c.in_ok-header.header.flags)) c.in-Ok-methods.methods.items ≡ true =
    subst (λ (b : Bool). list_all (method_fits b) c.in-Ok-methods.methods.items ≡ true) c.has-in_interface.ensures methods in
    subst Fits (sym c.parts_of-parts.ensures) (class_keeps c.in_ok-header.header c.in-Ok.fields.items c.in-Ok-methods.methods.items header fields all)
