use Rattle.jm_interp.proofs.SpecialRows.{calls_without_code, calls_code}
use Rattle.jm_interp.proofs.special_calls.call_declared.Goals as goal

pub call_without_code-requires : goal.call_without_code-requires
call_without_code-requires g c = calls_without_code c.requires c.in-Some.ensures c.in-None.is

pub call_code-requires : goal.call_code-requires
call_code-requires g c = calls_code c.requires c.in-Some-invoked_code.ensures
