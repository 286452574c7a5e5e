-- One more class.
use Rattle.std.proofs.Common.{◌∙◌, List, ℕ, [], sym, ap}
use Rattle.std.specs.List.{flat_map}
use Rattle.std.proofs.lemmas.List.{take_all}
use Rattle.jm_program.specs.declared.class.ClassParts.{ClassParts}
use Rattle.jm_world.specs.Loading.{texts_of_class}
use Rattle.jm_tables.specs.Texts.{with_texts}
use Rattle.jm_tables.proofs.TextLaws.{texts_more, all_gathered}
use Rattle.jm_tables.proofs.literals.Literals.of.Goals as goal

pub loop-class-preserved : goal.loop-class-preserved
loop-class-preserved c = record {
  texts = c.in_ok-add_class.ensures.texts
      ∙ ap (λ (class : ClassParts). with_texts c.loop-class.gathering.texts.items (texts_of_class class)) c.parts.ensures.parts
      ∙ ap (λ (ts : List (List ℕ)). with_texts ts (texts_of_class c.class-item.result)) c.loop-class.invariant.texts
      ∙ sym (texts_more texts_of_class [] c.args.classes.now c.loop-class.class-index c.class-item.result c.loop-class-test.true c.class-item.is);
  numbers = c.in_ok-add_class.ensures.numbers;
}

pub returns : goal.returns
returns c =
    c.loop-class.invariant.texts
    ∙ ap (λ (cs : List ClassParts). with_texts [] (flat_map texts_of_class cs)) (take_all c.loop-class.class-index c.args.classes.now c.loop-class-test.false)
    ∙ all_gathered (flat_map texts_of_class c.args.classes.now)
