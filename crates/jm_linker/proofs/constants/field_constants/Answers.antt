-- The constant of one more field.
use Rattle.std.proofs.Common.{length, refl, arith}
use Rattle.std.proofs.lemmas.Option.{slice_get_read}
use Rattle.jm_linker.proofs.ConstantLaws.{constants_more}
use Rattle.jm_linker.proofs.LiteralLaws.{field_literals}
use Rattle.jm_linker.proofs.constants.field_constants.Goals as goal

pub field_constant-requires : goal.field_constant-requires
field_constant-requires c =
    let fields = c.args.fields.now in
    let n = c.loop-field.field-index in
    field_literals c.args.classes.now.program.now fields n c.field-item.result c.requires
    (slice_get_read fields (length fields) n c.field-item.result refl (omega arith) c.field-item.is)

pub loop-field-preserved : goal.loop-field-preserved
loop-field-preserved c =
    constants_more c.args.classes.now.program.now c.loop-field.constants.items c.push.new.self.items c.args.fields.now c.loop-field.field-index
    c.field_constant.result c.field-item.result (omega arith) c.field-item.is c.in_ok-push.ensures.items c.loop-field.invariant c.field_constant.ensures
