-- Twelve subcommands, one after the other.
use Rattle.jm_options.specs.CommandLine.{jm}
use Rattle.jm_options.proofs.command.command.Goals as goal

pub returns : goal.returns
unfolding jm
returns c =
    let one = c.with_subcommand-jm.ensures _ (record { app = c.top_command.ensures.app; local = c.top_command.ensures.local }) in
    let two = c.with_subcommand-jm-2.ensures _ one in
    let three = c.with_subcommand-jm-3.ensures _ two in
    let four = c.with_subcommand-jm-4.ensures _ three in
    let five = c.with_subcommand-jm-5.ensures _ four in
    let six = c.with_subcommand-jm-6.ensures _ five in
    let seven = c.with_subcommand-jm-7.ensures _ six in
    let eight = c.with_subcommand-jm-8.ensures _ seven in
    let nine = c.with_subcommand-jm-9.ensures _ eight in
    let ten = c.with_subcommand-jm-10.ensures _ nine in
    let eleven = c.with_subcommand-jm-11.ensures _ ten in
    c.with_subcommand.ensures _ eleven
