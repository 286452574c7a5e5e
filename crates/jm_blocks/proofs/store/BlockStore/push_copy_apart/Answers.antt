use Rattle.std.proofs.Common.{◌≡◌, refl, Some, false, ◌++◌, ◌∷◌, [], ◌∙◌, ◌+◌, ap, arith, sym, subst, length, length-append}
use Rattle.std.specs.Prelude.{slice_get}
use Rattle.jm_blocks.specs.Objects.{Object, aged}
use Rattle.jm_blocks.specs.Cells.{object_cells}
use Rattle.jm_blocks.specs.Stores.{Blocks, lists_from, AreCounted, Bumped, last_has_room, next_place}
use Rattle.jm_blocks.proofs.Filling.{Filled, fill_new, reserved_new}
use Rattle.jm_blocks.proofs.Beginning.{length_from, more_from}
use Rattle.jm_blocks.proofs.Tallies.{counted_filled}
use Rattle.jm_blocks.proofs.store.BlockStore.push_copy_apart.Goals as goal

without : (c : goal.After-self-1) (o : Object) → slice_get c.args.from.now c.args.index ≡ Some o → last_has_room c.args.self.now.lists (object_cells o) ≡ false
without c o e =
    let both : Some c.requires.0 ≡ Some o = sym c.requires.1 ∙ e in
    let same : c.requires.0 ≡ o = cc in
    ap (λ x. last_has_room c.args.self.now.lists (object_cells x)) (sym same) ∙ c.requires.2

own : (c : goal.After-self-1) (o : Object) → slice_get c.args.from.now c.args.index ≡ Some o → Filled c.args.self.now (record { lane = c.self.inside.lane; lists = lists_from c.self.inside.first c.push_block.new.blocks.items }) (aged c.args.age o)
own c o e =
    let made : c.bump_copy.new.self ≡ aged c.args.age o ∷ [] = c.in_ok-bump_copy.ensures.ok o e ∙ ap (λ os. os ++ aged c.args.age o ∷ []) c.new-block.ensures in
    fill_new (record { lane = c.self.inside.lane; lists = lists_from c.self.inside.first c.self.inside.blocks.items }) c.args.self.now (lists_from c.self.inside.first c.push_block.new.blocks.items) (aged c.args.age o) c.self.view_is c.self.invariant.1 (without c o e) (ap (lists_from c.self.inside.first) c.in_ok-push_block.ensures.ok ∙ more_from c.self.inside.first c.self.inside.blocks.items (c.bump_copy.new.self ∷ []) ∙ ap (λ b. lists_from c.self.inside.first c.self.inside.blocks.items ++ b ∷ []) made)

pub invariant_of-self : goal.invariant_of-self
invariant_of-self c =
    let same = c.in_err-push_block.ensures.err in
    let many = ap length same in
    let grows = c.in_err-push_block.ensures.grows in
    let kept = c.self.invariant.5 in
    let room = kept.room in
    (c.self.invariant.0, c.self.invariant.1, omega (arith, many, c.self.invariant.2), subst (λ xs. AreCounted (lists_from c.self.inside.first xs) c.self.inside.cells) (sym same) c.self.invariant.3, c.self.invariant.4, record { last = λ h. let some = kept.last h in omega (arith, many, some); room = omega (arith, many, grows, room) })

pub invariant_of-self-2 : goal.invariant_of-self-2
invariant_of-self-2 c =
    let many : length c.push_block.new.blocks.items ≡ length c.self.inside.blocks.items + 1 = ap length c.in_ok-push_block.ensures.ok ∙ length-append c.self.inside.blocks.items (c.bump_copy.new.self ∷ []) in
    let o = c.requires.0 in
    let all = ap (λ (s : Blocks). length s.lists) c.self.view_is in
    let from = length_from c.self.inside.first c.self.inside.blocks.items in
    let counted = counted_filled (record { lane = c.self.inside.lane; lists = lists_from c.self.inside.first c.self.inside.blocks.items }) c.args.self.now _ (aged c.args.age o) c.self.inside.cells c.cells_of.result c.self.view_is (own c o c.requires.1) (c.cells_of.ensures o c.requires.1) c.self.invariant.3 in
    (c.self.invariant.0, c.self.invariant.1, omega (arith, many, all, from, c.if-blocks-ge-MAX_BLOCKS.false, c.len-blocks.ensures.value), counted, c.self.invariant.4, record { last = λ h. omega (arith, many); room = c.in_ok-push_block.ensures.room })

reserved : (c : goal.After-self-1) (o : Object) → slice_get c.args.from.now c.args.index ≡ Some o → c.place_in-place.result ≡ next_place c.args.self.now (object_cells o)
reserved c o e = c.place_in-place.ensures.value ∙ reserved_new c.args.self.now c.args.self.now c.len-blocks.result (object_cells o) refl c.len-blocks.ensures.value (without c o e)

pub returns-clause-ok : goal.returns-clause-ok
returns-clause-ok c o e = subst (λ p. Bumped c.args.self.now (record { lane = c.self.inside.lane; lists = lists_from c.self.inside.first c.push_block.new.blocks.items }) p (aged c.args.age o)) (sym (reserved c o e)) (own c o e).bumped

pub returns-clause-filled : goal.returns-clause-filled
returns-clause-filled c o e = record { place = reserved c o e; blocks = (own c o e).blocks }
