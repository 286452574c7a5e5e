-- The first that says something, or none.
use Rattle.std.proofs.Common.{sym, ◌∙◌}
use Rattle.jm_disassembler.proofs.Writing.{fields_next, fields_found, fields_end}
use Rattle.jm_disassembler.proofs.first.fields_part.Goals as goal

pub returns-in-Some : goal.returns-in-Some
returns-in-Some c =
    fields_found c.args.fields.now c.loop-number.number c.index-fields-number.result c.index-fields-number.result c.in-Some.part _ c.loop-number-test.true
    c.index-fields-number.is (sym c.field_part.ensures ∙ c.in-Some.is) c.loop-number.invariant

pub loop-number-preserved : goal.loop-number-preserved
loop-number-preserved c =
    fields_next c.args.fields.now c.loop-number.number c.index-fields-number.result c.index-fields-number.result _ c.loop-number-test.true
    c.index-fields-number.is (sym c.field_part.ensures ∙ c.in-None.is) c.loop-number.invariant

pub returns : goal.returns
returns c = fields_end c.args.fields.now c.loop-number.number _ c.loop-number-test.false c.loop-number.invariant
