-- What is read behind a pool keeps the rules of a class.
use Rattle.std.proofs.Common.{◌≡◌, ℕ, true, List, Ok}
use Rattle.jm_program.specs.Flags.{is_interface}
use Rattle.jm_program.specs.Fits.{version_fits}
use Rattle.jm_program.specs.declared.class.Version.{Version}
use Rattle.jm_class_format.specs.declared.constant_pool.Entry.{Entry}
use Rattle.jm_class_format.specs.ClassFile.{Head, Body, head, body, parts_of, class_fits}
use Rattle.jm_class_format.proofs.Rules.{of_fits}
use Rattle.jm_class_format.proofs.ReadFits.{head_read_fits, body_read_fits}

pub parts_fit : (es : List Entry) (t u left_t left_u : List ℕ) (v : Version) (h : Head) (b : Body)
    → version_fits v ≡ true → (head es).read t ≡ Ok (h, left_t) → (body es (is_interface h.access)).read u ≡ Ok (b, left_u) → class_fits (parts_of v h b) ≡ true
parts_fit es t u left_t left_u v h b in_version in_head in_body =
    let names = head_read_fits es t h left_t in_head in
    let members = body_read_fits es (is_interface h.access) u b left_u in_body in
    of_fits (parts_of v h b) (record { version = in_version; name = names.0; superclass = names.1; interfaces = names.2; fields = members.0; methods = members.1 })
