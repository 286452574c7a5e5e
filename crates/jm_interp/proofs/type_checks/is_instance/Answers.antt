use Rattle.std.proofs.Common.{rules}
use Rattle.jm_interp.proofs.SameTypes.{held_by_itself}
use Rattle.jm_interp.proofs.type_checks.is_instance.Goals as goal

pub returns-then-is_exactly : goal.returns-then-is_exactly
returns-then-is_exactly c t named = held_by_itself c.args.linked.now.program (c.is_exactly.ensures (search rules)) t named
