-- The constants of one more class, and in the end those of each.
use Rattle.std.proofs.Common.{length, refl, sym, ap, subst, ◌∙◌, arith}
use Rattle.std.specs.List.{flat_map}
use Rattle.std.proofs.lemmas.List.{take_all}
use Rattle.std.proofs.lemmas.Option.{slice_get_read}
use Rattle.jm_world.specs.Loading.{texts_of_field}
use Rattle.jm_linked.specs.Tables.{AreConstants}
use Rattle.jm_linker.specs.Literals.{AreLiterals}
use Rattle.jm_linker.proofs.ConstantLaws.{AreOfClasses, classes_more, have_constants}
use Rattle.jm_linker.proofs.LiteralLaws.{class_field_literals}
use Rattle.jm_linker.proofs.constants.constants_of.Goals as goal

pub field_constants-requires : goal.field_constants-requires
field_constants-requires c =
    let program = c.args.classes.now.program.now in
    let n = c.loop-class.class-index in
    let x = c.class-item.result in
    subst (λ fs. AreLiterals program (flat_map texts_of_field fs)) (sym (c.as_slice-fields.ensures ∙ ap (λ d. d.fields) c.parts.ensures.parts))
    (class_field_literals program n x (slice_get_read program (length program) n x refl (omega arith) c.class-item.is))

pub loop-class-preserved : goal.loop-class-preserved
loop-class-preserved c =
    let program = c.args.classes.now.program.now in
    classes_more program c.loop-class.table.items c.push.new.self.items program c.loop-class.class-index c.new.result c.class-item.result
    (omega arith) c.class-item.is c.in_ok-push.ensures.items c.loop-class.invariant
    (subst (AreConstants program c.new.result) (c.as_slice-fields.ensures ∙ ap (λ d. d.fields) c.parts.ensures.parts)
    (subst (λ xs. AreConstants program xs c.as_slice-fields.result.now) (sym c.new.ensures) c.in_ok-field_constants.ensures))

pub returns : goal.returns
returns c =
    let program = c.args.classes.now.program.now in
    have_constants program c.loop-class.table.items
    (subst (AreOfClasses program c.loop-class.table.items) (take_all c.loop-class.class-index program (omega arith)) c.loop-class.invariant)
