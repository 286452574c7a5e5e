-- Each text stands once.
use Rattle.std.specs.List.{flat_map}
use Rattle.jm_world.specs.Loading.{literal_texts, texts_of_class}
use Rattle.jm_tables.proofs.TextLaws.{distinct_are_apart, one_number}
use Rattle.jm_tables.proofs.laws.one_number_a_text.Goals as goal

pub returns : goal.returns
returns c = λ program a b s t. one_number (literal_texts program) a b s t (distinct_are_apart (flat_map texts_of_class program))
