-- The text of the section that was found.
use Rattle.std.proofs.Common.{Some, ap, ◌∙◌}
use Rattle.std.specs.Prelude.{option_map}
use Rattle.jm_page.proofs.Finding.{text_in, shown_found}
use Rattle.jm_page.proofs.section.shown_at.Goals as goal

pub returns-in-Some : goal.returns-in-Some
returns-in-Some c =
    let there = rw c.in-Some.is at c.found.ensures in
    ap Some c.text.ensures ∙ ap (option_map text_in) there ∙ shown_found c.args.key.now c.args.view.now

pub returns-in-None : goal.returns-in-None
returns-in-None c =
    let none = rw c.in-None.is at c.found.ensures in
    ap (option_map text_in) none ∙ shown_found c.args.key.now c.args.view.now
