use Rattle.std.proofs.Common.{◌≡◌, ◌⊎◌, inl, inr, ◌<◌, ◌≤◌, ◌+◌, ◌-◌, ◌%◌, ◌^◌, ◌∙◌, ◌++◌, ◌∷◌, [], List, ℕ, ap, arith, refl, sym, subst, suc, length, take}
use Rattle.std.specs.Prelude.{Some, slice_get, slice_set, get_or}
use Rattle.std.proofs.Math.Seq.{take-length}
use Rattle.std.proofs.lemmas.List.{length-set, length-take-le}
use Rattle.std.proofs.lemmas.Option.{slice_get_within}
use Rattle.jm_program.proofs.Sequences.{got_written}
use Rattle.jm_blocks.specs.Objects.{Object}
use Rattle.jm_blocks.specs.Stores.{Blocks, AreCounted, HasObject, IsEmpty, IsLast, IsLastBlock, IsPopped, Bumped, store_cells, lists_from}
use Rattle.jm_blocks.proofs.Walking.{last_there, nothing_there}
use Rattle.jm_blocks.proofs.Cutting.{cut_at, cut_read, cut_cells, cut_bumped, popped_whole}
use Rattle.jm_blocks.proofs.Sizes.{few_where_room}
use Rattle.jm_blocks.specs.Cells.{object_cells, block_cells}
use Rattle.jm_blocks.specs.Places.{place_at}
use Rattle.jm_blocks.proofs.Counting.{cells_push}
use Rattle.jm_blocks.proofs.Tallies.{counted_cut, counted_take}
use Rattle.jm_blocks.proofs.Beginning.{cut_from, got_from, length_from, some_from, take_from}
use Rattle.jm_blocks.proofs.store.BlockStore.pop.Goals as goal
use Rattle.jm_heap.proofs.SizeLaws.{at_least_two}

pub returns-in_default-clause-popped : goal.returns-in_default-clause-popped
returns-in_default-clause-popped c p there top = let none = nothing_there c.args.self.now c.in_default.ensures.found p in let some = there.1 in absurd cc

pub overflow_sub-kept : goal.overflow_sub-kept
overflow_sub-kept c =
    let at = subst (λ (t : Blocks). IsLastBlock t.lists c.in-Some.last) (sym c.self.view_is) c.in-Some.ensures.found in
    some_from c.self.inside.first c.in-Some.last c.self.inside.blocks.items at.block at.block_is at.some

pub index_mut-block-requires : goal.index_mut-block-requires
index_mut-block-requires c =
    let at = subst (λ (t : Blocks). IsLastBlock t.lists c.in-Some.last) (sym c.self.view_is) c.in-Some.ensures.found in
    let xs = c.self.inside.blocks.items in
    let begins = some_from c.self.inside.first c.in-Some.last xs at.block at.block_is at.some in
    let within = slice_get_within (lists_from c.self.inside.first xs) c.in-Some.last at.block at.block_is in
    omega (arith, begins, within, length_from c.self.inside.first xs, c.truncate.ensures.len, c.self.inside.blocks.ok.0)

last_is : (c : goal.After-truncate-2) → IsLastBlock (lists_from c.self.inside.first c.self.inside.blocks.items) c.in-Some.last
last_is c = subst (λ (t : Blocks). IsLastBlock t.lists c.in-Some.last) (sym c.self.view_is) c.in-Some.ensures.found

begins : (c : goal.After-truncate-2) → c.self.inside.first ≤ c.in-Some.last
begins c = let at = last_is c in some_from c.self.inside.first c.in-Some.last c.self.inside.blocks.items at.block at.block_is at.some

truncated : (c : goal.After-truncate-2) → c.truncate.new.self.items ≡ take (suc (c.in-Some.last - c.self.inside.first)) c.self.inside.blocks.items
truncated c = let one : c.in-Some.last - c.self.inside.first + 1 ≡ suc (c.in-Some.last - c.self.inside.first) = omega arith in c.truncate.ensures.items ∙ ap (λ n. take n c.self.inside.blocks.items) one

cur_is : (c : goal.After-truncate-2) → c.index_mut-block.result.now ≡ (last_is c).block
cur_is c =
    let xs = c.self.inside.blocks.items in
    let there = sym (got_from c.self.inside.first c.in-Some.last xs (begins c)) ∙ (last_is c).block_is in
    cut_read xs (c.in-Some.last - c.self.inside.first) (last_is c).block c.index_mut-block.result.now there (c.index_mut-block.ensures.value ∙ ap (λ (ys : List (List Object)). get_or ys (c.in-Some.last - c.self.inside.first) c.index_mut-block.result.now) (truncated c))

block_is : (c : goal.After-truncate-2) → slice_get (lists_from c.self.inside.first c.self.inside.blocks.items) c.in-Some.last ≡ Some (c.pop.new.self ++ c.pop.ensures.0 ∷ [])
block_is c =
    let whole : (last_is c).block ≡ c.pop.new.self ++ c.pop.ensures.0 ∷ [] = sym (cur_is c) ∙ c.pop.ensures.1 in
    (last_is c).block_is ∙ ap (λ x. Some x) whole

-- what is written back, before an empty block is given up
abbrev written : goal.After-truncate-2 → List (List Object)
written c = slice_set c.truncate.new.self.items (c.in-Some.last - c.self.inside.first) c.pop.new.self

cut_is : (c : goal.After-truncate-2) → cut_at (lists_from c.self.inside.first c.self.inside.blocks.items) c.in-Some.last c.pop.new.self ≡ lists_from c.self.inside.first (written c)
cut_is c =
    cut_from c.self.inside.first c.in-Some.last c.self.inside.blocks.items c.pop.new.self (begins c)
    ∙ ap (λ ys. lists_from c.self.inside.first (slice_set ys (c.in-Some.last - c.self.inside.first) c.pop.new.self)) (sym (truncated c))

-- it ends with the last block
ends : (c : goal.After-truncate-2) → length (written c) ≡ suc (c.in-Some.last - c.self.inside.first)
ends c =
    let xs = c.self.inside.blocks.items in
    let within = slice_get_within (lists_from c.self.inside.first xs) c.in-Some.last _ (block_is c) in
    let many = length_from c.self.inside.first xs in
    let low = begins c in
    let some : suc (c.in-Some.last - c.self.inside.first) ≤ length xs = omega (arith, within, many, low) in
    length-set c.truncate.new.self.items (c.in-Some.last - c.self.inside.first) c.pop.new.self ∙ ap length (truncated c) ∙ length-take-le (suc (c.in-Some.last - c.self.inside.first)) xs some

empty_is : (c : goal.After-truncate-2) → c.len.result ≡ 0 → slice_get (lists_from c.self.inside.first (written c)) c.in-Some.last ≡ Some []
empty_is c e =
    let many = ends c in
    let set = length-set c.truncate.new.self.items (c.in-Some.last - c.self.inside.first) c.pop.new.self in
    got_from c.self.inside.first c.in-Some.last (written c) (begins c)
    ∙ got_written c.truncate.new.self.items (c.in-Some.last - c.self.inside.first) c.pop.new.self (omega (arith, many, set))
    ∙ ap (λ x. Some x) (nothing c.pop.new.self (omega (arith, c.len.ensures.value, e)))
  where
    nothing : (os : List Object) → length os ≡ 0 → os ≡ []
    nothing [] h = refl
    nothing (x ∷ xs) h = absurd (omega (arith, h))

-- what holds of that, and of all before the last block where that is empty, holds of what is left
left_so : (c : goal.After-truncate-2) (P : List (List Object) → Type 0) → P (lists_from c.self.inside.first (written c)) → (slice_get (lists_from c.self.inside.first (written c)) c.in-Some.last ≡ Some [] → length (lists_from c.self.inside.first (written c)) ≤ suc c.in-Some.last → P (take c.in-Some.last (lists_from c.self.inside.first (written c)))) → P (lists_from c.self.inside.first c.truncate-2.new.self.items)
left_so c P whole less = by c.blocks_left-left.ensures
  where
    by : (c.blocks_left-left.result ≡ c.in-Some.last - c.self.inside.first + 1) ⊎ ((c.blocks_left-left.result ≡ c.in-Some.last - c.self.inside.first) × (c.len.result ≡ 0) × (0 < c.self.inside.first → 0 < c.in-Some.last - c.self.inside.first)) → P (lists_from c.self.inside.first c.truncate-2.new.self.items)
    by (inl e) =
        let many = ends c in
        let all : c.blocks_left-left.result ≡ length (written c) = omega (arith, many, e) in
        subst (λ ys. P (lists_from c.self.inside.first ys)) (sym (c.truncate-2.ensures.items ∙ ap (λ n. take n (written c)) all ∙ take-length (written c))) whole
    by (inr e) =
        let many = ends c in
        let low = begins c in
        let all = length_from c.self.inside.first (written c) in
        let at : c.self.inside.first + (c.in-Some.last - c.self.inside.first) ≡ c.in-Some.last = omega (arith, low) in
        let lists : take c.in-Some.last (lists_from c.self.inside.first (written c)) ≡ lists_from c.self.inside.first c.truncate-2.new.self.items =
        ap (λ n. take n (lists_from c.self.inside.first (written c))) (sym at)
        ∙ take_from c.self.inside.first (c.in-Some.last - c.self.inside.first) (written c)
        ∙ ap (lists_from c.self.inside.first) (ap (λ n. take n (written c)) (sym e.0) ∙ sym c.truncate-2.ensures.items) in
        subst P lists (less (empty_is c e.1) (omega (arith, many, all, low)))

popped : (c : goal.After-truncate-2) (p : ℕ) → HasObject c.args.self.now p → IsLast c.args.self.now p → (o : Object) × IsPopped c.args.self.now (record { lane = c.self.inside.lane; lists = lists_from c.self.inside.first (written c) }) p o
popped c p there top =
    let s : Blocks = record { lane = c.self.inside.lane; lists = lists_from c.self.inside.first c.self.inside.blocks.items } in
    let at = last_is c in
    let o = c.pop.ensures.0 in
    let is = block_is c in
    let room = few_where_room c.pop.new.self (object_cells o) c.pop.ensures.2 (at_least_two o.class (length o.values)) in
    let few : length c.pop.new.self + 1 ≤ 256 = omega (arith, room) in
    let bumped = cut_bumped s c.in-Some.last c.pop.new.self o p c.self.invariant.1 few at is (subst (λ t. HasObject t p) (sym c.self.view_is) there) (subst (λ t. IsLast t p) (sym c.self.view_is) top) in
    let cells = cut_cells s.lists c.in-Some.last c.pop.new.self o is at.after in
    let same = ap (λ (t : Blocks). store_cells t.lists) c.self.view_is in
    let lists = ap store_cells (cut_is c) in (
      o,
      record {
        bumped = subst (λ t. Bumped (record { lane = s.lane; lists = lists_from c.self.inside.first (written c) }) t p o) c.self.view_is (subst (λ xs. Bumped (record { lane = s.lane; lists = xs }) s p o) (cut_is c) bumped);
        cells = omega (arith, cells, same, lists);
      },
    )

pub returns-clause-popped : goal.returns-clause-popped
returns-clause-popped c p there top =
    let whole = popped c p there top in
    (whole.0, left_so c (λ ls. IsPopped c.args.self.now (record { lane = c.self.inside.lane; lists = ls }) p whole.0) whole.1 (λ e m. popped_whole c.args.self.now c.self.inside.lane (lists_from c.self.inside.first (written c)) c.in-Some.last p whole.0 whole.1 e m))

counted : (c : goal.After-truncate-2) → AreCounted (lists_from c.self.inside.first (written c)) ((c.self.inside.cells + (2 ^ 64 - (c.cells-cells.result - c.cells.result))) % 2 ^ 64)
counted c =
    let o = c.pop.ensures.0 in
    let more = ap block_cells c.pop.ensures.1 ∙ cells_push c.pop.new.self o in
    let size : c.cells-cells.result - c.cells.result ≡ object_cells o = omega (arith, more, c.cells-cells.ensures.value, c.cells.ensures.value) in
    let cut = counted_cut (lists_from c.self.inside.first c.self.inside.blocks.items) c.in-Some.last c.pop.new.self o c.self.inside.cells (c.cells-cells.result - c.cells.result) (block_is c) (last_is c).after size (omega (arith, c.cells-cells.type_inv)) c.self.invariant.3 in
    subst (λ ls. AreCounted ls ((c.self.inside.cells + (2 ^ 64 - (c.cells-cells.result - c.cells.result))) % 2 ^ 64)) (cut_is c) cut

-- how many are left
left_many : (c : goal.After-truncate-2) → (length c.truncate-2.new.self.items ≤ length c.self.inside.blocks.items) × (0 < c.self.inside.first → 0 < length c.truncate-2.new.self.items)
left_many c = by c.blocks_left-left.ensures
  where
    within : suc (c.in-Some.last - c.self.inside.first) ≤ length c.self.inside.blocks.items
    within =
        let inside = slice_get_within (lists_from c.self.inside.first c.self.inside.blocks.items) c.in-Some.last _ (block_is c) in
        let many = length_from c.self.inside.first c.self.inside.blocks.items in
        let low = begins c in
        omega (arith, inside, many, low)

    size : c.blocks_left-left.result ≤ length (written c) → length c.truncate-2.new.self.items ≡ c.blocks_left-left.result
    size h = ap length c.truncate-2.ensures.items ∙ length-take-le c.blocks_left-left.result (written c) h

    by : (c.blocks_left-left.result ≡ c.in-Some.last - c.self.inside.first + 1) ⊎ ((c.blocks_left-left.result ≡ c.in-Some.last - c.self.inside.first) × (c.len.result ≡ 0) × (0 < c.self.inside.first → 0 < c.in-Some.last - c.self.inside.first)) → (length c.truncate-2.new.self.items ≤ length c.self.inside.blocks.items) × (0 < c.self.inside.first → 0 < length c.truncate-2.new.self.items)
    by (inl e) =
        let many = ends c in
        let is = size (omega (arith, many, e)) in
        (omega (arith, is, e, within), λ h. omega (arith, is, e))
    by (inr e) =
        let many = ends c in
        let left = e.0 in
        let is = size (omega (arith, many, left)) in
        (omega (arith, is, left, within), λ h. let some = e.2 h in omega (arith, is, left, some))

pub invariant_of-self : goal.invariant_of-self
invariant_of-self c =
    let cells = (c.self.inside.cells + (2 ^ 64 - (c.cells-cells.result - c.cells.result))) % 2 ^ 64 in
    let many = left_many c in
    let fewer = many.0 in
    let room = c.self.invariant.5.room in (
      c.self.invariant.0,
      c.self.invariant.1,
      omega (arith, fewer, c.self.invariant.2),
      left_so c (λ ls. AreCounted ls cells) (counted c) (λ e m. counted_take (lists_from c.self.inside.first (written c)) c.in-Some.last cells e m (counted c)),
      c.self.invariant.4,
      record { last = many.1; room = omega (arith, fewer, room, c.truncate.ensures.capacity, c.truncate-2.ensures.capacity) },
    )

pub returns-clause-empty : goal.returns-clause-empty
returns-clause-empty c none =
    let s : Blocks = record { lane = c.self.inside.lane; lists = lists_from c.self.inside.first c.self.inside.blocks.items } in
    let at = last_is c in
    let few = c.self.invariant.3.short c.in-Some.last at.block at.block_is in
    let there = last_there s c.in-Some.last (length at.block - 1) at.block c.self.invariant.1 at.block_is (omega (arith, at.some)) few at.after in
    let some = there.0.1 in
    let nowhere = subst IsEmpty (sym c.self.view_is) none (place_at s.lane c.in-Some.last (length at.block - 1)) in
    absurd cc
