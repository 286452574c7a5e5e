-- Both parts, one behind the other.
use Rattle.std.proofs.lemmas.Result.{on_ok_weaker}
use Rattle.jm_page.proofs.Kept.{change_written}
use Rattle.jm_page.proofs.change.write_change.Goals as goal

pub returns-clause-written : goal.returns-clause-written
returns-clause-written c = on_ok_weaker c.write_gone.result (change_written c.args.old.now c.args.new.now _ _ _ c.in_ok-write_changed.ensures) c.write_gone.ensures
