-- Each text stands under its number.
use Rattle.std.specs.List.{flat_map}
use Rattle.jm_world.specs.Loading.{literal_texts, texts_of_class}
use Rattle.jm_tables.proofs.TextLaws.{AreApart, distinct_are_apart, text_at}
use Rattle.jm_tables.proofs.laws.literal_by_number.Goals as goal

pub returns : goal.returns
unfolding AreApart
returns c = λ program text n. (text_at (literal_texts program) text n, distinct_are_apart (flat_map texts_of_class program) n text)
