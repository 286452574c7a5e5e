-- Why it makes no event.
use Rattle.std.proofs.Common.{sym, ap}
use Rattle.jm_debug.specs.Session.{Shown}
use Rattle.jm_debug.proofs.Continues.{last_ended, last_blocked, last_limit}
use Rattle.jm_debug.proofs.turn.last_line.Goals as goal

pub returns-in-Ended : goal.returns-in-Ended
returns-in-Ended g c = λ s first m at. ap (λ (x : Shown). x.answer) (last_ended s first c.args.blocked (sym (c.in-Ended.ensures.turn s m at)))

pub returns-in-Blocked : goal.returns-in-Blocked
returns-in-Blocked g c = λ s first m at. ap (λ (x : Shown). x.answer) (last_blocked s first c.args.blocked (sym (c.in-Blocked.ensures.turn s m at)))

pub returns-in-Of : goal.returns-in-Of
returns-in-Of g c = λ s first m at. ap (λ (x : Shown). x.answer) (last_limit s first c.args.blocked c.in-Of.field-0 (sym (c.in-Of.ensures.turn s m at)))
