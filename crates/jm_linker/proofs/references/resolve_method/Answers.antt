-- The class that declares it is one of the program.
use Rattle.jm_linker.proofs.FoundNumberLaws.{method_class}
use Rattle.jm_linker.proofs.references.resolve_method.Goals as goal

pub member_number-requires : goal.member_number-requires
member_number-requires c =
    let r = c.args.sought.now.method.now in
    method_class c.args.classes.now.program.now c.args.name.now r.name r.descriptor _ c.in_ok-found.found c.in_ok-class.ensures c.in_ok-found.ensures.found
