use Rattle.jm_interp.proofs.SelectedCalls.{throws_abstract, calls_without_code, calls_code}
use Rattle.jm_interp.proofs.selections.call_selected.Goals as goal

pub refuse-requires-clause-refused : goal.refuse-requires-clause-refused
refuse-requires-clause-refused g c = throws_abstract c.requires c.in-Nothing.is

pub call_without_code-requires : goal.call_without_code-requires
call_without_code-requires g c = calls_without_code c.requires c.in-WithoutCode.is c.in-Some.ensures

pub call_code-requires : goal.call_code-requires
call_code-requires g c = calls_code c.requires c.in-Coded.is
