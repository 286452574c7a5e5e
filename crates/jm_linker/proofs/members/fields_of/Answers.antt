-- One more field, and a field that stands twice.
use Rattle.std.proofs.Common.{refl, sym, subst, ◌∙◌, arith}
use Rattle.jm_linker.specs.Answers.{SaysWhy}
use Rattle.jm_linker.proofs.Seen.{fields_go_on, field_twice}
use Rattle.jm_linker.proofs.TableLaws.{field_is_new, field_is_there, fields_more, field_numbers_more}
use Rattle.jm_linker.proofs.members.fields_of.Goals as goal

pub returns-in-Some-clause-refusal : goal.returns-in-Some-clause-refusal
returns-in-Some-clause-refusal c =
    let inv = c.loop-index.invariant in
    let x = c.index-fields-index.result in
    let there = field_is_there c.loop-index.table _ c.field_key-key.result x.name x.descriptor _ _ inv.1 c.field_key-key.ensures c.in_ok-insert.ensures.old c.in-Some.is in
    subst (SaysWhy c.duplicate_member.result) (sym (field_twice c.args.fields.now c.loop-index.index c.index-fields-index.result
    (omega arith) c.index-fields-index.is there inv.0)) c.duplicate_member.ensures

pub loop-index-preserved : goal.loop-index-preserved
loop-index-preserved c =
    let xs = c.args.fields.now in
    let i = c.loop-index.index in
    let x = c.index-fields-index.result in
    let inv = c.loop-index.invariant in
    let new = field_is_new c.loop-index.table _ c.field_key-key.result x.name x.descriptor _ inv.1 c.field_key-key.ensures c.in_ok-insert.ensures.old c.in_default.is in (
      fields_go_on xs i x (omega arith) c.index-fields-index.is new inv.0,
      fields_more xs i x _ c.field_key-key.result c.loop-index.table c.insert.new.self (omega arith) c.index-fields-index.is refl c.field_key-key.ensures
          (sym c.in_ok-insert.ensures.old ∙ c.in_default.is) c.in_ok-insert.ensures.updates.0 inv.1,
      field_numbers_more xs i x _ c.field_key-key.result c.loop-index.table c.insert.new.self
          (omega arith) c.index-fields-index.is c.in_ok-number.ensures refl c.in_ok-insert.ensures.updates.0 inv.2,
    )
