use Rattle.std.proofs.Common.{◌≡◌, ◌-◌, ◌∙◌, Some, List, ap, arith, sym, subst, length}
use Rattle.jm_blocks.specs.Objects.{Object}
use Rattle.jm_blocks.specs.Stores.{HasObject, IsLast}
use Rattle.jm_blocks.proofs.Walking.{nothing_there, last_there}
use Rattle.jm_blocks.proofs.store.BlockStore.last.Goals as goal

pub returns-in_default : goal.returns-in_default
returns-in_default c = nothing_there c.args.self.now c.in_default.ensures.found

some_same : (x y : List Object) → Some x ≡ Some y → x ≡ y
some_same x y e = cc

pub overflow_sub-objects : goal.overflow_sub-objects
overflow_sub-objects c =
    let at = c.in-Some.ensures.found in
    let read = some_same _ _ (sym c.block.ensures ∙ at.block_is) in
    omega (arith, ap length read, at.some, c.len-objects.ensures.value)

pub returns : goal.returns
returns c =
    let at = c.in-Some.ensures.found in
    let read = some_same _ _ (sym c.block.ensures ∙ at.block_is) in
    let many = ap length read in
    let last = last_there c.args.self.now c.in-Some.block (c.len-objects.result - 1) at.block c.place_in.ensures.lane at.block_is (omega (arith, many, at.some, c.len-objects.ensures.value)) (omega (arith, many, c.len-objects.ensures.value, c.len-objects.ensures.few)) at.after in
    subst (λ p. HasObject c.args.self.now p × IsLast c.args.self.now p) (sym c.place_in.ensures.value) last
