use Rattle.jm_interp.proofs.CodelessCalls.{on, string_on_top, length_comes, is_char_at}
use Rattle.jm_interp.proofs.OnTop.{its_place}
use Rattle.jm_interp.proofs.codeless_calls.call_of_string.Goals as goal

pub length_of-length-requires-clause-held : goal.length_of-length-requires-clause-held
length_of-length-requires-clause-held g c = its_place (on c.requires) 0 (string_on_top c.requires c.in-0.is)

pub replace-requires-clause-outcome : goal.replace-requires-clause-outcome
replace-requires-clause-outcome g c =
    length_comes c.requires c.in-0.is c.index.ensures c.object_at-receiver.ensures.room c.length_of-length.result c.length_of-length.ensures

pub char_on_top-char-requires : goal.char_on_top-char-requires
char_on_top-char-requires g c = is_char_at c.requires c.in-1.is
