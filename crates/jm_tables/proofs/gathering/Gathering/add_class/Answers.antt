-- Fields, and then methods.
use Rattle.std.proofs.Common.{◌≡◌, ◌∙◌, List, ℕ, sym, ap, subst}
use Rattle.std.specs.Prelude.{OnOk}
use Rattle.jm_program.specs.declared.class.Field.{Field}
use Rattle.jm_program.specs.declared.class.Method.{Method}
use Rattle.std.specs.List.{flat_map}
use Rattle.jm_world.specs.Loading.{texts_of_field, texts_of_method}
use Rattle.jm_tables.specs.Texts.{with_texts}
use Rattle.jm_tables.proofs.TextLaws.{texts_append}
use Rattle.jm_tables.proofs.gathering.Gathering.add_class.Goals as goal

pub returns-clause-texts : goal.returns-clause-texts
returns-clause-texts c =
    subst (λ (ts : List (List ℕ)). OnOk c.add_methods.result (c.add_methods.new.self.texts.items ≡ ts))
    (ap (λ (ts : List (List ℕ)). with_texts ts (flat_map texts_of_method c.as_slice-2.result.now)) c.in_ok-add_fields.ensures.texts
    ∙ ap (λ (ms : List Method). with_texts (with_texts c.args.self.now.texts.items (flat_map texts_of_field c.as_slice.result.now))
    (flat_map texts_of_method ms))
    c.as_slice-2.ensures
    ∙ ap (λ (fs : List Field). with_texts (with_texts c.args.self.now.texts.items (flat_map texts_of_field fs))
    (flat_map texts_of_method c.args.class.now.methods))
    c.as_slice.ensures
    ∙ sym (texts_append c.args.self.now.texts.items (flat_map texts_of_field c.args.class.now.fields) (flat_map texts_of_method c.args.class.now.methods)))
    c.add_methods.ensures.texts
