-- Each turn writes one character more.
use Rattle.std.proofs.Common.{◌++◌, ◌∙◌, ap, sym, append_assoc, rules, encode_utf8}
use Rattle.std.proofs.Output.{has_written_append}
use Rattle.jm_world.specs.Text.{utf8_text}
use Rattle.jm_class_path.proofs.utf8.Utf8Display.fmt.Goals as goal

pub loop-character-preserved : goal.loop-character-preserved
loop-character-preserved g c =
    let (done, whole, wrote) = c.loop-character.invariant in
    let first = encode_utf8 c.in-Some.character in (
      done ++ first,
      append_assoc done first (utf8_text c.in-Some.rest.now) ∙ ap (λ text. done ++ text) (sym c.in-Some.ensures.text) ∙ whole,
      λ plain.
          let sofar = wrote plain in
          has_written_append _ _ _ _ _ _ sofar (c.write_char.ensures.writes sofar.plain (search rules)),
    )
