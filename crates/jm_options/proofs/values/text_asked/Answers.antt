-- The text that the matches hold, or that there is none.
use Rattle.std.proofs.Common.{Some, sym, ap, ◌∙◌}
use Rattle.clap.specs.Words.{found_of}
use Rattle.clap.proofs.WalkLemmas.{first_value-rows}
use Rattle.jm_options.proofs.Finding.{no_text, none_found}
use Rattle.jm_options.proofs.values.text_asked.Goals as goal

pub returns-in_default : goal.returns-in_default
returns-in_default c =
    let none = rw c.in_default.is at c.get_str.ensures in
    none_found _ _ (λ text. no_text c.args.name.now _ _ (none ∙ first_value-rows (found_of c.args.matches.now) c.args.name.now))

pub returns : goal.returns
returns c =
    let text = rw c.in-Some.is at c.get_str.ensures in
    sym (first_value-rows (found_of c.args.matches.now) c.args.name.now) ∙ sym text ∙ ap Some (sym c.in_ok-from_str.ensures.ok)
