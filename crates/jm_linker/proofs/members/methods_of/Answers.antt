-- One more method, and a method that stands twice.
use Rattle.std.proofs.Common.{refl, sym, subst, ◌∙◌, arith}
use Rattle.jm_linker.specs.Answers.{SaysWhy}
use Rattle.jm_linker.proofs.Seen.{methods_go_on, method_twice}
use Rattle.jm_linker.proofs.TableLaws.{method_is_new, method_is_there, methods_more, method_numbers_more}
use Rattle.jm_linker.proofs.members.methods_of.Goals as goal

pub returns-in-Some-clause-refusal : goal.returns-in-Some-clause-refusal
returns-in-Some-clause-refusal c =
    let inv = c.loop-index.invariant in
    let x = c.index-methods-index.result in
    let there = method_is_there c.loop-index.table _ c.in_ok-key.key x.name x.descriptor _ _ inv.1 c.in_ok-key.ensures c.in_ok-insert.ensures.old c.in-Some.is in
    subst (SaysWhy c.duplicate_member.result) (sym (method_twice c.args.methods.now c.loop-index.index c.index-methods-index.result
    (omega arith) c.index-methods-index.is there inv.0)) c.duplicate_member.ensures

pub loop-index-preserved : goal.loop-index-preserved
loop-index-preserved c =
    let xs = c.args.methods.now in
    let i = c.loop-index.index in
    let x = c.index-methods-index.result in
    let inv = c.loop-index.invariant in
    let new = method_is_new c.loop-index.table _ c.in_ok-key.key x.name x.descriptor _ inv.1 c.in_ok-key.ensures c.in_ok-insert.ensures.old c.in_default.is in (
      methods_go_on xs i x (omega arith) c.index-methods-index.is new inv.0,
      methods_more xs i x _ c.in_ok-key.key c.loop-index.table c.insert.new.self (omega arith) c.index-methods-index.is refl c.in_ok-key.ensures
          (sym c.in_ok-insert.ensures.old ∙ c.in_default.is) c.in_ok-insert.ensures.updates.0 inv.1,
      method_numbers_more xs i x _ c.in_ok-key.key c.loop-index.table c.insert.new.self
          (omega arith) c.index-methods-index.is c.in_ok-number.ensures refl c.in_ok-insert.ensures.updates.0 inv.2,
    )
