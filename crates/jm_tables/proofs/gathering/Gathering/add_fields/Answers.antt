-- One more.
use Rattle.std.proofs.Common.{◌∙◌, List, ℕ, sym, ap}
use Rattle.jm_world.specs.Loading.{texts_of_field}
use Rattle.jm_tables.specs.Texts.{with_texts}
use Rattle.jm_tables.proofs.TextLaws.{texts_more}
use Rattle.jm_tables.proofs.gathering.Gathering.add_fields.Goals as goal

pub loop-field-preserved : goal.loop-field-preserved
loop-field-preserved c = record {
  texts = c.in_ok-add_field.ensures.texts
      ∙ ap (λ (ts : List (List ℕ)). with_texts ts (texts_of_field c.field-item.result)) c.loop-field.invariant.texts
      ∙ sym (texts_more texts_of_field c.args.self.now.texts.items c.args.fields.now c.loop-field.field-index c.field-item.result c.loop-field-test.true
      c.field-item.is);
  numbers = c.in_ok-add_field.ensures.numbers;
}
