use Rattle.std.proofs.Common.{◌≡◌, ◌<◌, ◌-◌, ◌+◌, ◌%◌, ◌^◌, [], ◌∙◌, ap, sym, subst, refl, length, arith, get_or}
use Rattle.std.specs.Prelude.{slice_get, slice_set}
use Rattle.std.proofs.lemmas.List.{length-set}
use Rattle.std.proofs.lemmas.Option.{get_or_from_slice_get, slice_get_read}
use Rattle.jm_blocks.specs.Stores.{Blocks, AreCounted, lists_from}
use Rattle.jm_blocks.proofs.Filling.{set_same}
use Rattle.jm_blocks.proofs.Beginning.{got_below, kept_set, length_from, read_from, set_from}
use Rattle.jm_blocks.proofs.Tallies.{counted_taken}
use Rattle.jm_blocks.proofs.store.BlockStore.take.Goals as goal

pub returns-then-number-self-clause-left : goal.returns-then-number-self-clause-left
returns-then-number-self-clause-left c =
    let ls = lists_from c.self.inside.first c.self.inside.blocks.items in
    let none = got_below c.self.inside.first c.args.number c.self.inside.blocks.items c.if-number-self.true in
    let same = set_same ls c.args.number [] (sym (get_or_from_slice_get ls c.args.number [] [] none)) in
    sym (ap (λ (s : Blocks). record { lane = s.lane; lists = slice_set s.lists c.args.number [] }) (sym c.self.view_is) ∙ ap (λ xs. record { lane = c.self.inside.lane; lists = xs }) same ∙ c.self.view_is)

pub index_mut-requires : goal.index_mut-requires
index_mut-requires c =
    let same = ap (λ (s : Blocks). length s.lists) c.self.view_is in
    omega (arith, same, c.requires, length_from c.self.inside.first c.self.inside.blocks.items, c.if-number-self.false, c.self.inside.blocks.ok.0)

within : (c : goal.After-self-2-1) → c.args.number < length (lists_from c.self.inside.first c.self.inside.blocks.items)
within c = let same = ap (λ (s : Blocks). length s.lists) c.self.view_is in omega (arith, same, c.requires)

read : (c : goal.After-self-2-1) → c.replace-block.result ≡ get_or (lists_from c.self.inside.first c.self.inside.blocks.items) c.args.number c.replace-block.result
read c =
    let value = c.replace-block.ensures.value in
    value
    ∙ c.index_mut.ensures.value
    ∙ ap (get_or c.self.inside.blocks.items (c.args.number - c.self.inside.first)) (sym value)
    ∙ sym (read_from c.self.inside.first c.args.number c.self.inside.blocks.items c.replace-block.result c.if-number-self.false)

lists : (c : goal.After-self-2-1) → slice_set (lists_from c.self.inside.first c.self.inside.blocks.items) c.args.number [] ≡ lists_from c.self.inside.first (slice_set c.self.inside.blocks.items (c.args.number - c.self.inside.first) c.replace-block.new.dest)
lists c =
    set_from c.self.inside.first c.args.number c.self.inside.blocks.items [] c.if-number-self.false
    ∙ ap (λ x. lists_from c.self.inside.first (slice_set c.self.inside.blocks.items (c.args.number - c.self.inside.first) x)) (sym (c.replace-block.ensures.after ∙ c.new-2.ensures))

pub invariant_of-self : goal.invariant_of-self
invariant_of-self c =
    let xs = c.self.inside.blocks.items in
    let many = length-set xs (c.args.number - c.self.inside.first) c.replace-block.new.dest in
    let taken = counted_taken (lists_from c.self.inside.first xs) c.args.number c.replace-block.result c.self.inside.cells c.cells.result (within c) (read c) c.cells.ensures.value (omega (arith, c.cells.type_inv)) c.self.invariant.3 in
    (c.self.invariant.0, c.self.invariant.1, omega (arith, many, c.self.invariant.2), subst (λ ls. AreCounted ls ((c.self.inside.cells + (2 ^ 64 - c.cells.result)) % 2 ^ 64)) (lists c) taken, c.self.invariant.4, kept_set c.self.inside.first xs (c.args.number - c.self.inside.first) c.replace-block.new.dest _ c.self.invariant.5)

pub returns-clause-block : goal.returns-clause-block
returns-clause-block c =
    let ls = lists_from c.self.inside.first c.self.inside.blocks.items in
    ap (λ (s : Blocks). slice_get s.lists c.args.number) (sym c.self.view_is) ∙ slice_get_read ls (length ls) c.args.number c.replace-block.result refl (within c) (read c)

pub returns-clause-left : goal.returns-clause-left
returns-clause-left c = ap (λ ls. record { lane = c.self.inside.lane; lists = ls }) (sym (lists c)) ∙ ap (λ (s : Blocks). record { lane = s.lane; lists = slice_set s.lists c.args.number [] }) c.self.view_is
