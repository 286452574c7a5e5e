use Rattle.std.proofs.Common.{◌%◌, ◌-◌, sym, subst, arith}
use Rattle.jm_gen_heap.specs.Held.{held}
use Rattle.jm_gen_heap.specs.Several.{EndsInPut, IsBackBefore}
use Rattle.jm_gen_heap.proofs.Unmaking.{unmade_held}
use Rattle.jm_gen_heap.proofs.generations.Generations.unmake.Goals as goal

pub overflow_sub-self : goal.overflow_sub-self
overflow_sub-self c =
    let ends = subst (λ x. EndsInPut x (c.args.nursery % 16)) (sym c.self.view_is) c.requires in
    let next = ends.4.put.put.next in
    omega (arith, next)

pub invariant_of-self : goal.invariant_of-self
invariant_of-self c =
    let ends = subst (λ x. EndsInPut x (c.args.nursery % 16)) (sym c.self.view_is) c.requires in
    (unmade_held c.self.invariant (c.args.nursery % 16) ends c.pop.ensures.popped).0

pub returns : goal.returns
returns c =
    let i = c.self.inside in
    let ends = subst (λ x. EndsInPut x (c.args.nursery % 16)) (sym c.self.view_is) c.requires in
    let back = (unmade_held c.self.invariant (c.args.nursery % 16) ends c.pop.ensures.popped).1 in
    subst (λ x. IsBackBefore x (held i.limit (i.next - 1) c.pop.new.self i.tenured i.pointers) (c.args.nursery % 16)) c.self.view_is back
