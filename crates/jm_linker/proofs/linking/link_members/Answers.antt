-- The program loads where none of the reasons was found.
use Rattle.jm_linker.proofs.Reasons.{loads_where}
use Rattle.jm_linker.proofs.linking.link_members.Goals as goal

pub tables_of-requires : goal.tables_of-requires
tables_of-requires c =
    loads_where c.args.classes.now.program.now c.requires.classes c.requires.members c.in_ok-check_all_parents.ensures c.in_ok-ranks.ensures
    c.in_ok-check_main.ensures c.in_ok-methods.ensures.refusal
