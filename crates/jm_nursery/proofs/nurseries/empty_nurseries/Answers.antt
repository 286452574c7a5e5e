use Rattle.std.proofs.Common.{◌≡◌, ◌∷◌, [], ◌++◌, ◌∙◌, ap, subst, arith}
use Rattle.jm_nursery.proofs.Making.{AreBare, bare_none, bare_more, bare_all}
use Rattle.jm_nursery.proofs.nurseries.empty_nurseries.Goals as goal

pub loop-number-init : goal.loop-number-init
loop-number-init c = bare_none c.in_ok-stores.stores.items c.in_ok-stores.ensures.items

pub loop-number-preserved : goal.loop-number-preserved
loop-number-preserved c = bare_more c.loop-number.stores.items c.push.new.self.items c.loop-number.number c.loop-number.invariant (c.in_ok-push.ensures.items ∙ ap (λ s. c.loop-number.stores.items ++ s ∷ []) c.new.ensures)

pub returns : goal.returns
returns c =
    let end : c.loop-number.number ≡ 16 = omega (arith, c.loop-number-test.false, c.loop-number.auto.number-end) in
    bare_all c.loop-number.stores.items (subst (λ n. AreBare c.loop-number.stores.items n) end c.loop-number.invariant)
