-- The subcommand that was met, or none.
use Rattle.std.proofs.Common.{sym}
use Rattle.jm_options.proofs.Finding.{none_found, none_met, finds_met, subcommand_is}
use Rattle.jm_options.proofs.words.found_options.Goals as goal

pub returns-in-Some : goal.returns-in-Some
returns-in-Some c =
    let name = rw c.in-Some.is at c.subcommand.ensures.name in
    let rows = rw c.in-Some.is at c.subcommand.ensures.rows in
    finds_met _ _ _ _ (subcommand_is c.args.matches.now _ _ (sym name) (sym rows)) c.named_options.ensures

pub returns-in-None : goal.returns-in-None
returns-in-None c =
    let none = rw c.in-None.is at c.subcommand.ensures.name in
    none_found _ _ (none_met c.args.matches.now none)
