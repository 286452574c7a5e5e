-- The texts so far are there.
use Rattle.std.proofs.Common.{◌≡◌, [], take}
use Rattle.std.specs.List.{flat_map}
use Rattle.jm_world.specs.Loading.{texts_of_class}
use Rattle.jm_tables.specs.Texts.{HasNumbers, with_texts}
use Rattle.jm_tables.proofs.literals.Literals.of.Given as goal

abbrev pub invariant-loop-class : goal.invariant-loop-class
invariant-loop-class l = record {
  texts : l.gathering.texts.items ≡ with_texts [] (flat_map texts_of_class (take l.class-index l.classes));
  numbers : HasNumbers l.gathering.numbers l.gathering.texts.items;
}
