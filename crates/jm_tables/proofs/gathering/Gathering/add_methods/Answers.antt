-- One more.
use Rattle.std.proofs.Common.{◌∙◌, List, ℕ, sym, ap}
use Rattle.jm_world.specs.Loading.{texts_of_method}
use Rattle.jm_tables.specs.Texts.{with_texts}
use Rattle.jm_tables.proofs.TextLaws.{texts_more}
use Rattle.jm_tables.proofs.gathering.Gathering.add_methods.Goals as goal

pub loop-method-preserved : goal.loop-method-preserved
loop-method-preserved c = record {
  texts = c.in_ok-add_method.ensures.texts
      ∙ ap (λ (ts : List (List ℕ)). with_texts ts (texts_of_method c.method-item.result)) c.loop-method.invariant.texts
      ∙ sym (texts_more texts_of_method c.args.self.now.texts.items c.args.methods.now c.loop-method.method-index c.method-item.result c.loop-method-test.true
      c.method-item.is);
  numbers = c.in_ok-add_method.ensures.numbers;
}
