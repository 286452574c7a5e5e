-- At the end the characters so far are those of the text.
use Rattle.std.proofs.Common.{ℕ, List, sym, ap, ◌∙◌, map-id}
use Rattle.std.proofs.lemmas.Iterator.{YieldsList-from_chars}
use Rattle.std.proofs.lemmas.Iterator.Consumers.{YieldsList-end}
use Rattle.jm_jasmin_lex.specs.declared.string.Part.TheVariants.{Before}
use Rattle.jm_jasmin_lex.specs.Literals.{units_from, units_of_literal}
use Rattle.jm_jasmin_lex.proofs.Strings.{units_next, units_done}
use Rattle.jm_jasmin_lex.proofs.string.literal.Goals as goal

pub returns : goal.returns
unfolding units_of_literal
returns c =
    let end = YieldsList-end (YieldsList-from_chars c.args.text.now c.utf8.text cc) c.loop-character.yielded _ c.loop-character.yielded_by _ _ c.in-None.is c.next.ensures.steps in
    sym (units_done _ _ _ c.loop-character.invariant.so_far) ∙ ap (λ (cs : List ℕ). units_from Before cs) (sym (map-id c.loop-character.yielded) ∙ end.0)

pub loop-character-preserved : goal.loop-character-preserved
loop-character-preserved c = record {
  small = c.part_after-part.ensures.small;
  so_far = units_next _ _ _ _ _ _ c.loop-character.invariant.so_far c.in_ok-push_units.ensures c.part_after-part.ensures.value;
}
