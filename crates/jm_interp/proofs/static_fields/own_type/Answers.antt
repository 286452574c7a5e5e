use Rattle.std.proofs.Common.{ap, length, ◌∙◌}
use Rattle.jm_interp.proofs.StaticRows.{own_declared}
use Rattle.jm_interp.proofs.static_fields.own_type.Goals as goal

pub returns : goal.returns
returns c found numbered =
    let number = c.in_ok-number.ensures in
    let class = c.in_ok-class.ensures.lookup in
    let declared = c.in_ok-declared.ensures.lookup in
    own_declared c.args.linked.now.program c.args.field found numbered c.classes.result.now (length c.built_ins.result.now) c.in_ok-number.number
    c.parts.result.now c.as_slice.result.now c.in_ok-declared.declared.now c.classes.ensures.classes (ap length c.built_ins.ensures) number.0 number.1 class.3.0
    (c.parts.ensures.parts ∙ class.3.1 c.parts.result.now) c.as_slice.ensures declared.3.0 declared.1
