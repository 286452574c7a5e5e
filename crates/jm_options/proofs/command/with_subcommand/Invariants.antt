-- The arguments so far.
use Rattle.std.proofs.Common.{take}
use Rattle.std.specs.List.{fold}
use Rattle.clap.specs.Words.{new_app}
use Rattle.jm_options.specs.CommandLine.{IsSeenAs}
use Rattle.jm_options.specs.Rows.{with_said}
use Rattle.jm_options.proofs.command.with_subcommand.Given as goal

abbrev pub invariant-loop-argument : goal.invariant-loop-argument
invariant-loop-argument l = IsSeenAs l.command (fold with_said (new_app l.said.name.now) (take l.argument-index l.arguments))
