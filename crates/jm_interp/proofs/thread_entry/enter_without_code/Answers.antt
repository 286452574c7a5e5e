use Rattle.std.proofs.Common.{sym, ◌∙◌}
use Rattle.jm_linked.proofs.BuiltInNumbers.{names_built_in}
use Rattle.jm_interp.proofs.Entries.{throws_abstract, ends_at_once}
use Rattle.jm_interp.proofs.thread_entry.enter_without_code.Goals as goal

pub returns-then-has-clause-steps : goal.returns-then-has-clause-steps
returns-then-has-clause-steps g c =
    throws_abstract c.requires c.in-Some.ensures (sym c.has.ensures ∙ c.if-has.true)
    (names_built_in c.args.at.linked.now.program c.number.result _ c.number.ensures.named) c.throw.ensures.does

pub returns-clause-steps : goal.returns-clause-steps
returns-clause-steps g c = ends_at_once c.requires c.in-Some.ensures (sym c.has.ensures ∙ c.if-has.false) c.end_thread.ensures.ends
