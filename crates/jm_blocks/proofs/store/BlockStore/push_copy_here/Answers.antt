use Rattle.std.proofs.Common.{◌+◌, ◌≡◌, ◌≤◌, ◌^◌, Some, get_or, ◌-◌, ◌∙◌, ap, arith, sym, subst, length}
use Rattle.std.specs.Prelude.{slice_get, slice_set}
use Rattle.std.proofs.lemmas.List.{length-set}
use Rattle.jm_blocks.specs.Objects.{Object, aged}
use Rattle.jm_blocks.specs.Cells.{object_cells}
use Rattle.jm_blocks.specs.Stores.{lists_from, AreCounted, last_has_room}
use Rattle.jm_blocks.proofs.Filling.{Filled, set_same}
use Rattle.jm_blocks.proofs.Beginning.{fill_kept, kept_set, room_in_kept, within_kept}
use Rattle.jm_blocks.proofs.Tallies.{counted_filled}
use Rattle.jm_blocks.proofs.store.BlockStore.push_copy_here.Goals.{After-self-2-1}
use Rattle.jm_blocks.proofs.store.BlockStore.push_copy_here.Goals as goal

pub index_mut-block-requires : goal.index_mut-block-requires
index_mut-block-requires c = let within = (within_kept c.self.inside.first c.self.inside.blocks.items c.self.inside.lane c.len-blocks.result c.args.self.now c.self.view_is c.self.invariant.5.last (c.len-blocks.ensures ∙ c.self.inside.blocks.ok.0) (object_cells c.requires.0) c.requires.3).1 in omega (arith, within, c.self.inside.blocks.ok.0)

pub bump_copy-requires : goal.bump_copy-requires
bump_copy-requires c =
    let o = c.requires.0 in
    (o, c.requires.1, room_in_kept c.self.inside.first c.self.inside.blocks.items c.self.inside.lane c.len-blocks.result c.args.self.now c.self.view_is c.self.invariant.5.last (c.len-blocks.ensures ∙ c.self.inside.blocks.ok.0) (object_cells o) c.index_mut-block.result.now c.index_mut-block.ensures.value c.requires.3)

filled : (c : After-self-2-1) (o : Object) → slice_get c.args.from.now c.args.index ≡ Some o → Filled c.args.self.now (record { lane = c.self.inside.lane; lists = lists_from c.self.inside.first (slice_set c.self.inside.blocks.items (c.len-blocks.result - 1) c.bump_copy.new.self) }) (aged c.args.age o)
filled c o e =
    let both : Some c.requires.0 ≡ Some o = sym c.requires.1 ∙ e in
    let same : c.requires.0 ≡ o = cc in
    let room = ap (λ (x : Object). last_has_room c.args.self.now.lists (object_cells x)) (sym same) ∙ c.requires.3 in
    fill_kept c.self.inside.first c.self.inside.blocks.items c.self.inside.lane c.len-blocks.result c.args.self.now c.self.view_is c.self.invariant.5.last (c.len-blocks.ensures ∙ c.self.inside.blocks.ok.0) c.index_mut-block.result.now c.bump_copy.new.self (aged c.args.age o) c.self.invariant.1 c.index_mut-block.ensures.value room (c.in_ok-bump_copy.ensures.ok o e)

pub invariant_of-self : goal.invariant_of-self
invariant_of-self c =
    let same = set_same c.self.inside.blocks.items (c.len-blocks.result - 1) c.bump_copy.new.self (c.in_err-bump_copy.ensures.err ∙ c.index_mut-block.ensures.value ∙ ap (get_or c.self.inside.blocks.items (c.len-blocks.result - 1)) (sym c.in_err-bump_copy.ensures.err)) in
    (c.self.invariant.0, c.self.invariant.1, subst (λ xs. c.self.inside.first + length xs ≤ 2 ^ 49) (sym same) c.self.invariant.2, subst (λ xs. AreCounted (lists_from c.self.inside.first xs) c.self.inside.cells) (sym same) c.self.invariant.3, c.self.invariant.4, kept_set c.self.inside.first c.self.inside.blocks.items (c.len-blocks.result - 1) c.bump_copy.new.self _ c.self.invariant.5)

pub invariant_of-self-2 : goal.invariant_of-self-2
invariant_of-self-2 c =
    let o = c.requires.0 in
    let many = length-set c.self.inside.blocks.items (c.len-blocks.result - 1) c.bump_copy.new.self in
    let counted = counted_filled (record { lane = c.self.inside.lane; lists = lists_from c.self.inside.first c.self.inside.blocks.items }) c.args.self.now _ (aged c.args.age o) c.self.inside.cells c.args.cells c.self.view_is (filled c o c.requires.1) c.requires.2 c.self.invariant.3 in
    (c.self.invariant.0, c.self.invariant.1, omega (arith, many, c.self.invariant.2), counted, c.self.invariant.4, kept_set c.self.inside.first c.self.inside.blocks.items (c.len-blocks.result - 1) c.bump_copy.new.self _ c.self.invariant.5)

pub returns-clause-ok : goal.returns-clause-ok
returns-clause-ok c o e = (filled c o e).blocks
