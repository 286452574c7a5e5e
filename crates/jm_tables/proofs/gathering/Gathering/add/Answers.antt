-- The text is there, or is put at the end.
use Rattle.std.proofs.Common.{◌≡◌, ◌∙◌, ◌++◌, ◌∷◌, [], false, true, refl, sym, ap}
use Rattle.std.specs.Prelude.{is_some}
use Rattle.jm_tables.specs.Texts.{number_of_text}
use Rattle.jm_tables.proofs.TextLaws.{numbers_more, text_there, text_new}
use Rattle.jm_tables.proofs.gathering.Gathering.add.Goals as goal

pub returns-then-contains_key-clause-texts : goal.returns-then-contains_key-clause-texts
returns-then-contains_key-clause-texts c =
    text_there c.args.self.now.texts.items c.args.text.now
    (sym (c.if-contains_key.ensures ∙ ap is_some (c.requires c.as_slice-units.result
    ∙ ap (number_of_text c.args.self.now.texts.items) c.as_slice-units.ensures)))

pub returns-clause-texts : goal.returns-clause-texts
returns-clause-texts c =
    c.in_ok-push.ensures.items ∙ ap (λ t. c.args.self.now.texts.items ++ t ∷ []) c.in_ok-share.ensures
    ∙ text_new c.args.self.now.texts.items c.args.text.now
    (sym (c.if-contains_key.ensures ∙ ap is_some (c.requires c.as_slice-units.result
    ∙ ap (number_of_text c.args.self.now.texts.items) c.as_slice-units.ensures)))

pub returns-clause-numbers : goal.returns-clause-numbers
returns-clause-numbers c =
    numbers_more c.args.self.now.texts.items c.push.new.self.items c.args.text.now c.as_slice-units.result c.in-Ok.number c.args.self.now.numbers
    c.insert.new.self c.as_slice-units.ensures (c.in-Ok.ensures.1 ∙ c.len.ensures ∙ c.args.self.now.texts.ok.0)
    (c.in_ok-push.ensures.items ∙ ap (λ t. c.args.self.now.texts.items ++ t ∷ []) c.in_ok-share.ensures)
    (sym c.if-contains_key.ensures) c.in_ok-insert.ensures.updates.0 c.requires
