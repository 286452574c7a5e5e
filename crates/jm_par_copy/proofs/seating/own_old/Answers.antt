use Rattle.std.proofs.Common.{◌≡◌, ◌∙◌, arith, ap}
use Rattle.std.specs.Prelude.{slice_get}
use Rattle.jm_blocks.specs.Stores.{Blocks}
use Rattle.jm_par_copy.specs.Moves.{with_block}
use Rattle.jm_par_copy.proofs.Begun.{begun_block, begun_empty, begun_ends, opened, opened_is, opened_free}
use Rattle.jm_par_copy.proofs.seating.own_old.Goals as goal

pub returns-then-first-len-clause-begun : goal.returns-then-first-len-clause-begun
returns-then-first-len-clause-begun c =
    let old = c.args.old.now in
    let first = c.first_block-first.result in
    let is = opened_is old first c.lane.result c.in_ok-store.store c.lane.ensures.value c.in_ok-store.ensures in
    let over = c.if-first-len.true in
    let value = c.len.ensures.value in
    begun_empty c.args.number c.args.copiers first old c.first_block-first.ensures.begins (omega (arith, over, value)) c.in_ok-store.store is

pub returns-then-first-len-clause-ends : goal.returns-then-first-len-clause-ends
returns-then-first-len-clause-ends c =
    let old = c.args.old.now in
    let first = c.first_block-first.result in
    let is = opened_is old first c.lane.result c.in_ok-store.store c.lane.ensures.value c.in_ok-store.ensures in
    let over = c.if-first-len.true in
    let value = c.len.ensures.value in
    begun_ends c.args.number c.args.copiers old c.in_ok-store.store (begun_empty c.args.number c.args.copiers first old c.first_block-first.ensures.begins (omega (arith, over, value)) c.in_ok-store.store is)

pub put-requires : goal.put-requires
put-requires c =
    let first = c.first_block-first.result in
    let is = opened_is c.args.old.now first c.lane.result c.in_ok-store.store c.lane.ensures.value c.in_ok-store.ensures in
    ap (λ (s : Blocks). slice_get s.lists first) is ∙ opened_free first

pub returns-clause-begun : goal.returns-clause-begun
returns-clause-begun c =
    let old = c.args.old.now in
    let first = c.first_block-first.result in
    let is = opened_is old first c.lane.result c.in_ok-store.store c.lane.ensures.value c.in_ok-store.ensures in
    let copied : c.in_ok-block.block ≡ c.block.result.now = c.in_ok-block.ensures in
    let put : c.put.new.self ≡ with_block (opened first old) first c.block.result.now = c.put.ensures ∙ ap (λ s. with_block s first c.in_ok-block.block) is ∙ ap (λ os. with_block (opened first old) first os) copied in
    begun_block c.args.number c.args.copiers first old c.first_block-first.ensures.begins c.args.alloc c.block.result.now c.block.ensures c.put.new.self put

pub returns-clause-ends : goal.returns-clause-ends
returns-clause-ends c =
    let old = c.args.old.now in
    let first = c.first_block-first.result in
    let is = opened_is old first c.lane.result c.in_ok-store.store c.lane.ensures.value c.in_ok-store.ensures in
    let copied : c.in_ok-block.block ≡ c.block.result.now = c.in_ok-block.ensures in
    let put : c.put.new.self ≡ with_block (opened first old) first c.block.result.now = c.put.ensures ∙ ap (λ s. with_block s first c.in_ok-block.block) is ∙ ap (λ os. with_block (opened first old) first os) copied in
    begun_ends c.args.number c.args.copiers old c.put.new.self (begun_block c.args.number c.args.copiers first old c.first_block-first.ensures.begins c.args.alloc c.block.result.now c.block.ensures c.put.new.self put)
