-- The texts so far are there.
use Rattle.std.proofs.Common.{◌≡◌, take}
use Rattle.std.specs.List.{flat_map}
use Rattle.jm_world.specs.Loading.{texts_of_instruction}
use Rattle.jm_tables.specs.Texts.{HasNumbers, with_texts}
use Rattle.jm_tables.proofs.gathering.Gathering.add_code.Given as goal

abbrev pub invariant-loop-instruction : goal.invariant-loop-instruction
invariant-loop-instruction l = record {
  texts : l.self.texts.items ≡ with_texts l.initial.self.texts.items (flat_map texts_of_instruction (take l.instruction-index l.instructions));
  numbers : HasNumbers l.self.numbers l.self.texts.items;
}
