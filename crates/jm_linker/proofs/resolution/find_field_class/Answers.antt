-- No class, a field of the class itself, and above.
use Rattle.std.proofs.Common.{sym, ◌∙◌}
use Rattle.std.specs.Borrow.{Bor}
use Rattle.std.specs.Prelude.{option_map}
use Rattle.jm_linker.specs.declared.members.Members.{Members}
use Rattle.jm_linker.proofs.FoundLaws.{field_answer, field_here, field_of_no_class}
use Rattle.jm_linker.proofs.resolution.find_field_class.Goals as goal

pub returns-in_default : goal.returns-in_default
returns-in_default c =
    let field = c.args.sought.now.field.now in
    field_of_no_class field.name field.descriptor c.args.classes.now.program.now c.args.class.now (sym c.in_default.ensures)

pub returns-then-is_in : goal.returns-then-is_in
returns-then-is_in c =
    let field = c.args.sought.now.field.now in
    field_here field.name field.descriptor c.args.classes.now.program.now c.args.class.now c.in-Some.named.now.class.now (sym c.in-Some.ensures)
    (sym c.is_in.ensures ∙ c.if-is_in.true)

pub returns : goal.returns
returns c = field_answer c.args.sought.now.field.now.name c.args.sought.now.field.now.descriptor c.args.classes.now.program.now c.from_ref.result.now c.args.class.now (option_map (λ (m : Bor Members). m.now.class.now)) c.find_above.result c.from_ref.ensures.value c.find_above.ensures
