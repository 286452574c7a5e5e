-- The node that was copied has another entry at the column's digit.
use Rattle.std.proofs.Common.{◌≡◌, ◌-◌, cond, sym, ◌∙◌, ap, subst, arith}
use Rattle.std.proofs.lemmas.Result.{IfOk-weaker}
use Rattle.jm_tables.specs.Nodes.{IsThere, found_from, agree}
use Rattle.jm_tables.proofs.NodeLaws.{there_none, found_none, agree_none, there_step}
use Rattle.jm_tables.proofs.WriteLaws.{written_there, written_found}
use Rattle.jm_tables.proofs.node.+write.Goals as goal

pub returns-then-levels-eq0-clause-there : goal.returns-then-levels-eq0-clause-there
returns-then-levels-eq0-clause-there t c = subst (λ n. IsThere c.args.nodes.now.items n c.args.entry) (sym c.if-levels-eq0.true)
    (there_none c.args.nodes.now.items c.args.entry)

pub returns-then-levels-eq0-clause-found : goal.returns-then-levels-eq0-clause-found
returns-then-levels-eq0-clause-found t c = λ k.
    subst (λ n. found_from c.args.nodes.now.items n c.args.entry k ≡ cond (agree n k c.args.column) c.args.entry
    (found_from c.args.nodes.now.items n c.args.root k)) (sym c.if-levels-eq0.true)
    (found_none c.args.nodes.now.items c.args.entry k ∙ sym (ap (λ b. cond b c.args.entry (found_from c.args.nodes.now.items 0 c.args.root k))
    (agree_none k c.args.column)))

pub write-requires : goal.write-requires
write-requires t c =
    let there = there_step c.args.nodes.now.items c.args.levels c.args.root c.digit-place.result c.if-levels-eq0.false c.requires.there
    c.digit-place.ensures.small in
    let entries = rw c.deref.ensures.value at c.node-copy.ensures.entries in
    (omega arith, (omega arith, subst (IsThere c.args.nodes.now.items (c.args.levels - 1)) (sym (entries c.digit-place.result)) there))

pub returns-clause-there : goal.returns-clause-there
returns-clause-there t c =
    let new = written_there c.args.nodes.now.items c.write.new.nodes.items c.node-copy.result c.args.levels c.args.root c.args.column c.args.entry
    c.in_ok-copy.field-0 c.digit-place.result c.if-levels-eq0.false c.digit-place.ensures.value
    c.node-copy.ensures.there (rw c.deref.ensures.value at c.node-copy.ensures.entries) c.requires.there c.write.ensures.longer c.in_ok-copy.ensures.there
    c.in_ok-copy.ensures.found in
    IfOk-weaker c.push.result _ _ (λ n is. new c.push.new.nodes.items n is.0 is.1) c.push.ensures.new

pub returns-clause-found : goal.returns-clause-found
returns-clause-found t c =
    let new = written_found c.args.nodes.now.items c.write.new.nodes.items c.node-copy.result c.args.levels c.args.root c.args.column c.args.entry
    c.in_ok-copy.field-0 c.digit-place.result c.if-levels-eq0.false c.digit-place.ensures.value
    c.node-copy.ensures.there (rw c.deref.ensures.value at c.node-copy.ensures.entries) c.requires.there c.write.ensures.longer c.in_ok-copy.ensures.there
    c.in_ok-copy.ensures.found in
    IfOk-weaker c.push.result _ _ (λ n is k. new c.push.new.nodes.items n k is.0 is.1) c.push.ensures.new
