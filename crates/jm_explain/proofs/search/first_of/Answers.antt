-- A search among entries is one among what they say.
use Rattle.std.proofs.Common.{ap, ◌∙◌}
use Rattle.std.specs.Option.{option_map}
use Rattle.jm_explain.specs.Asked.{is_asked}
use Rattle.jm_explain.specs.Items.{item}
use Rattle.jm_explain.proofs.Finding.{find_viewed}
use Rattle.jm_explain.proofs.search.first_of.Goals as goal

pub returns-in-Some : goal.returns-in-Some
returns-in-Some c =
    let there = rw c.in-Some.is at c.found.ensures in
    ap (option_map item) there ∙ find_viewed item (is_asked c.args.asked) c.args.entries.now

pub returns-in-None : goal.returns-in-None
returns-in-None c =
    let none = rw c.in-None.is at c.found.ensures in
    ap (option_map item) none ∙ find_viewed item (is_asked c.args.asked) c.args.entries.now
