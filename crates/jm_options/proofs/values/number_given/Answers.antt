-- The number that the matches hold, or none.
use Rattle.std.proofs.Common.{sym, ◌∙◌}
use Rattle.clap.specs.Words.{found_of}
use Rattle.clap.proofs.WalkLemmas.{first_value-rows}
use Rattle.jm_options.proofs.Finding.{no_given, none_found}
use Rattle.jm_options.proofs.values.number_given.Goals as goal

pub returns-in_default : goal.returns-in_default
returns-in_default c =
    let none = rw c.in_default.is at c.get_str.ensures in
    sym (first_value-rows (found_of c.args.matches.now) c.args.name.now) ∙ sym none

pub returns-in-None : goal.returns-in-None
returns-in-None c =
    let text = rw c.in-Some.is at c.get_str.ensures in
    none_found _ _ (no_given c.args.name.now _ _ _ c.in-Some._text.now (text ∙ first_value-rows (found_of c.args.matches.now) c.args.name.now) c.in-None.ensures)
