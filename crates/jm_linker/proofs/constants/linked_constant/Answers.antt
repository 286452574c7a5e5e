-- A literal has its number.
use Rattle.std.proofs.Common.{sym, ap, subst, ◌∙◌}
use Rattle.jm_world.specs.Loading.{literal_texts, text_of}
use Rattle.jm_tables.specs.Texts.{number_of_text}
use Rattle.jm_tables.proofs.TextLaws.{text_at}
use Rattle.jm_linker.specs.Literals.{AreLiterals}
use Rattle.jm_linker.proofs.LiteralLaws.{has_number}
use Rattle.jm_linker.proofs.constants.linked_constant.Goals as goal

pub unreachable-requires : goal.unreachable-requires
unreachable-requires c =
    let program = c.args.classes.now.program.now in
    has_number program c.in-String.text (subst (AreLiterals program) (ap text_of c.in-String.is) c.requires)
    (ap (number_of_text (literal_texts program)) (sym c.as_slice.ensures) ∙ sym c.literal.ensures ∙ c.in-None.is)

pub returns-in-Some : goal.returns-in-Some
returns-in-Some c =
    let texts = literal_texts c.args.classes.now.program.now in (
      c.in-String.text,
      c.in-String.is,
      text_at texts c.in-String.text c.in-Some.number (ap (number_of_text texts) (sym c.as_slice.ensures) ∙ sym c.literal.ensures ∙ c.in-Some.is),
    )
