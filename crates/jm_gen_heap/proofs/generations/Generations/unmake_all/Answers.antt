use Rattle.std.proofs.Common.{◌≡◌, ◌+◌, ◌-◌, ◌%◌, suc, zero, subst, arith}
use Rattle.jm_gen_heap.specs.Several.{AreFirstPut}
use Rattle.jm_gen_heap.proofs.Several.{last_step, without_last}
use Rattle.jm_gen_heap.proofs.generations.Generations.unmake_all.Goals as goal

pub loop-init : goal.loop-init
loop-init c g places xs v f = let all : c.args.count ≡ c.args.count - zero = omega arith in subst (λ k. AreFirstPut g places (c.args.nursery % 16) xs k c.args.self.now) all f

pub unmake-requires : goal.unmake-requires
unmake-requires c =
    let n = c.args.nursery % 16 in
    let (g, places, xs, v, f) = c.requires in
    let more : c.args.count - c.loop.counter ≡ suc (c.args.count - (c.loop.counter + 1)) = omega (arith, c.loop-test.true) in
    last_step g places n xs (c.args.count - (c.loop.counter + 1)) c.loop.self v (subst (λ k. AreFirstPut g places n xs k c.loop.self) more (c.loop.invariant g places xs v f))

pub loop-preserved : goal.loop-preserved
loop-preserved c g places xs v f =
    let n = c.args.nursery % 16 in
    let more : c.args.count - c.loop.counter ≡ suc (c.args.count - (c.loop.counter + 1)) = omega (arith, c.loop-test.true) in
    without_last g places n xs (c.args.count - (c.loop.counter + 1)) c.loop.self c.unmake.new.self v (subst (λ k. AreFirstPut g places n xs k c.loop.self) more (c.loop.invariant g places xs v f)) c.unmake.ensures

pub returns : goal.returns
returns c g places xs v f =
    let none : c.args.count - c.loop.counter ≡ zero = omega (arith, c.loop-test.false) in
    subst (λ k. AreFirstPut g places (c.args.nursery % 16) xs k c.loop.self) none (c.loop.invariant g places xs v f)
