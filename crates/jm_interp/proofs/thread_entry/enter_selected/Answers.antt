use Rattle.jm_linked.proofs.BuiltInNumbers.{names_built_in}
use Rattle.jm_interp.proofs.Entries.{none_found, throws_none, begins_without_code, begins_code}
use Rattle.jm_interp.proofs.thread_entry.enter_selected.Goals as goal

pub enter_without_code-requires : goal.enter_without_code-requires
enter_without_code-requires g c = begins_without_code c.requires c.in-WithoutCode.is c.in-Some.ensures

pub enter_code-requires : goal.enter_code-requires
enter_code-requires g c = begins_code c.requires c.in-Coded.is

pub returns-in-Nothing-clause-steps : goal.returns-in-Nothing-clause-steps
returns-in-Nothing-clause-steps g c =
    throws_none c.requires.begins (none_found c.requires c.in-Nothing.is)
    (names_built_in c.args.at.linked.now.program c.number.result _ c.number.ensures.named) c.throw.ensures.does
