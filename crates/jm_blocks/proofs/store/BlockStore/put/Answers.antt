use Rattle.std.proofs.Common.{◌≤◌, ◌-◌, ◌+◌, ◌%◌, ◌^◌, ◌∙◌, ap, sym, subst, length, arith}
use Rattle.std.specs.Prelude.{slice_get, slice_set}
use Rattle.std.proofs.lemmas.List.{length-set}
use Rattle.jm_blocks.specs.Stores.{Blocks, AreCounted, lists_from}
use Rattle.jm_blocks.proofs.Beginning.{kept_set, length_from, set_from}
use Rattle.jm_blocks.proofs.Tallies.{counted_put}
use Rattle.jm_blocks.proofs.store.BlockStore.put.Goals as goal

pub invariant_of-self : goal.invariant_of-self
invariant_of-self c =
    let ls = lists_from c.self.inside.first c.self.inside.blocks.items in
    let all = ap length c.keep_empty.ensures ∙ length_from c.self.inside.first c.self.inside.blocks.items in
    let many = length-set c.keep_empty.new.blocks.items c.args.number c.args.block in
    let there = ap (λ (s : Blocks). slice_get s.lists c.args.number) c.self.view_is ∙ c.requires in
    let few : length c.args.block ≤ 256 = omega (arith, c.len-objects.ensures.value, c.len-objects.ensures.few) in
    let counted = counted_put ls c.args.number c.args.block c.self.inside.cells c.cells.result there c.cells.ensures.value few c.self.invariant.3 in (
      c.self.invariant.0,
      c.self.invariant.1,
      omega (arith, many, all, c.self.invariant.2),
      subst (λ xs. AreCounted (slice_set xs c.args.number c.args.block) ((c.self.inside.cells + c.cells.result) % 2 ^ 64)) (sym c.keep_empty.ensures) counted,
      c.self.invariant.4,
      record { last = λ h. absurd (omega (arith, h)); room = omega (arith, many, c.keep_empty.new.blocks.ok.0, c.keep_empty.new.blocks.ok.1) },
    )

pub invariant_of-self-2 : goal.invariant_of-self-2
invariant_of-self-2 c =
    let f = c.self.inside.first in
    let xs = c.self.inside.blocks.items in
    let many = length-set xs (c.args.number - f) c.args.block in
    let there = ap (λ (s : Blocks). slice_get s.lists c.args.number) c.self.view_is ∙ c.requires in
    let few : length c.args.block ≤ 256 = omega (arith, c.len-objects.ensures.value, c.len-objects.ensures.few) in
    let counted = counted_put (lists_from f xs) c.args.number c.args.block c.self.inside.cells c.cells.result there c.cells.ensures.value few c.self.invariant.3 in (
      c.self.invariant.0,
      c.self.invariant.1,
      omega (arith, many, c.self.invariant.2),
      subst (λ ls. AreCounted ls ((c.self.inside.cells + c.cells.result) % 2 ^ 64)) (set_from f c.args.number xs c.args.block c.if-number-self.false) counted,
      c.self.invariant.4,
      kept_set f xs (c.args.number - f) c.args.block _ c.self.invariant.5,
    )

pub returns : goal.returns
returns c = ap (λ ls. record { lane = c.self.inside.lane; lists = ls }) (sym (set_from c.self.inside.first c.args.number c.self.inside.blocks.items c.args.block c.if-number-self.false)) ∙ ap (λ (s : Blocks). record { lane = s.lane; lists = slice_set s.lists c.args.number c.args.block }) c.self.view_is
