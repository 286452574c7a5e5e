-- Each turn writes one sign more, and at the end they are those of the name.
use Rattle.std.proofs.Common.{flat_map, sym, ap, ◌∙◌, map-id}
use Rattle.std.proofs.Output.{has_written_of_eq}
use Rattle.std.proofs.lemmas.Iterator.{YieldsList-from_chars}
use Rattle.std.proofs.lemmas.Iterator.Consumers.{YieldsList-end}
use Rattle.jm_execute.specs.FileNames.{file_name_text, sign_text}
use Rattle.jm_execute.proofs.file_name.write_signs.Goals as goal

pub returns : goal.returns
unfolding file_name_text
returns g c = λ plain ok.
    let end = YieldsList-end (YieldsList-from_chars c.args.name.now c.utf8.name cc) c.loop-character.yielded _ c.loop-character.yielded_by _ _ c.in-None.is c.next.ensures.steps in
    has_written_of_eq _ _ _ _ _ (ap (flat_map sign_text) (sym (map-id c.loop-character.yielded) ∙ end.0)) (c.loop-character.invariant plain)
