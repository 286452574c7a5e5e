-- The texts so far are there.
use Rattle.std.proofs.Common.{◌≡◌, take}
use Rattle.std.specs.List.{flat_map}
use Rattle.jm_world.specs.Loading.{texts_of_method}
use Rattle.jm_tables.specs.Texts.{HasNumbers, with_texts}
use Rattle.jm_tables.proofs.gathering.Gathering.add_methods.Given as goal

abbrev pub invariant-loop-method : goal.invariant-loop-method
invariant-loop-method l = record {
  texts : l.self.texts.items ≡ with_texts l.initial.self.texts.items (flat_map texts_of_method (take l.method-index l.methods));
  numbers : HasNumbers l.self.numbers l.self.texts.items;
}
