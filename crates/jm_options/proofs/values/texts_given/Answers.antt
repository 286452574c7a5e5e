-- The texts that the matches hold, or that there are none.
use Rattle.std.proofs.Common.{List, [], Global, Option, String, sym, ap, ◌∙◌, map}
use Rattle.std.specs.Prelude.{string_bytes, unwrap_or}
use Rattle.clap.specs.Words.{Text, found_of}
use Rattle.clap.proofs.WalkLemmas.{raw_values-rows}
use Rattle.jm_options.proofs.values.texts_given.Goals as goal

abbrev or_none : Option (List Text) → List Text
or_none texts = unwrap_or texts []

pub returns-in_default : goal.returns-in_default
returns-in_default c =
    let none = rw c.in_default.is at c.get_strs.ensures in
    ap or_none (sym (raw_values-rows (found_of c.args.matches.now) c.args.name.now) ∙ sym none)
    ∙ ap (map (λ (s : String Global). string_bytes s)) (sym c.new.ensures.items)

pub returns : goal.returns
returns c =
    let texts = rw c.in-Some.is at c.get_strs.ensures in
    ap or_none (sym (raw_values-rows (found_of c.args.matches.now) c.args.name.now) ∙ sym texts) ∙ sym c.in_ok-strings_of.ensures
