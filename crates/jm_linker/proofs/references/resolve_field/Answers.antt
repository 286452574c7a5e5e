-- The class that declares it is one of the program.
use Rattle.jm_linker.proofs.FoundNumberLaws.{field_class}
use Rattle.jm_linker.proofs.references.resolve_field.Goals as goal

pub member_number-requires : goal.member_number-requires
member_number-requires c =
    let r = c.of-sought.result.field.now in
    field_class c.args.classes.now.program.now c.args.name.now r.name r.descriptor _ c.in_ok-found.found c.in_ok-class.ensures c.in_ok-found.ensures.found
