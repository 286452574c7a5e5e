-- The texts so far are there.
use Rattle.std.proofs.Common.{◌≡◌, take}
use Rattle.std.specs.List.{flat_map}
use Rattle.jm_world.specs.Loading.{texts_of_field}
use Rattle.jm_tables.specs.Texts.{HasNumbers, with_texts}
use Rattle.jm_tables.proofs.gathering.Gathering.add_fields.Given as goal

abbrev pub invariant-loop-field : goal.invariant-loop-field
invariant-loop-field l = record {
  texts : l.self.texts.items ≡ with_texts l.initial.self.texts.items (flat_map texts_of_field (take l.field-index l.fields));
  numbers : HasNumbers l.self.numbers l.self.texts.items;
}
