-- One argument more.
use Rattle.jm_options.proofs.Seen.{row_added}
use Rattle.jm_options.proofs.command.with_subcommand.Goals as goal

pub loop-argument-preserved : goal.loop-argument-preserved
loop-argument-preserved c =
    row_added c.loop-argument.command _ c.argument_of.result _ c.args.said.now.arguments.now c.loop-argument.argument-index _ c.loop-argument-test.true c.loop-argument.invariant c.argument_of.ensures.rule c.argument_of.ensures.local c.in_ok-command.ensures
