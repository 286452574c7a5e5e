-- One more.
use Rattle.std.proofs.Common.{◌∙◌, List, ℕ, sym, ap}
use Rattle.jm_world.specs.Loading.{texts_of_instruction}
use Rattle.jm_tables.specs.Texts.{with_texts}
use Rattle.jm_tables.proofs.TextLaws.{texts_more}
use Rattle.jm_tables.proofs.gathering.Gathering.add_code.Goals as goal

pub loop-instruction-preserved : goal.loop-instruction-preserved
loop-instruction-preserved c = record {
  texts = c.in_ok-add_instruction.ensures.texts
      ∙ ap (λ (ts : List (List ℕ)). with_texts ts (texts_of_instruction c.instruction-item.result)) c.loop-instruction.invariant.texts
      ∙ sym (texts_more texts_of_instruction c.args.self.now.texts.items c.args.instructions.now c.loop-instruction.instruction-index c.instruction-item.result
      c.loop-instruction-test.true c.instruction-item.is);
  numbers = c.in_ok-add_instruction.ensures.numbers;
}
