-- The text of the flag, or none.
use Rattle.std.proofs.Common.{ap, ◌∙◌}
use Rattle.clap.specs.Words.{found_of}
use Rattle.clap.proofs.WalkLemmas.{first_value-rows}
use Rattle.jm_options.specs.Asked.{is_set}
use Rattle.jm_options.proofs.values.is_set.Goals as goal

pub returns-in-Some : goal.returns-in-Some
returns-in-Some c =
    let text = rw c.in-Some.is at c.get_str.ensures in
    c.eq.ensures ∙ ap is_set (text ∙ first_value-rows (found_of c.args.matches.now) c.args.name.now)

pub returns-in-None : goal.returns-in-None
returns-in-None c =
    let none = rw c.in-None.is at c.get_str.ensures in
    ap is_set (none ∙ first_value-rows (found_of c.args.matches.now) c.args.name.now)
