use Rattle.std.proofs.Common.{◌≡◌, ◌∷◌, [], ℕ, List, length, sym, subst, ap, ◌∙◌, arith, refl}
use Rattle.std.specs.Prelude.{◌++◌}
use Rattle.std.proofs.lemmas.List.{nil_from_length, append-nil}
use Rattle.std.specs.Vec.Iter.{into_iter_items}
use Rattle.jm_heap.specs.Slots.{Slot}
use Rattle.jm_heap.specs.Stored.{AreTaken, StoredAll}
use Rattle.jm_heap.proofs.SlotLemmas.{stored_one_more, rest_taken, is_taken}
use Rattle.jm_heap.proofs.slots.store_all.Goals as goal

pub loop-slot-preserved : goal.loop-slot-preserved
loop-slot-preserved c =
    let steps : into_iter_items c.loop-slot.slot-iterator ≡ c.in-Some.slot ∷ into_iter_items c.next.new.self = c.in-Some.ensures.steps.0 in
    let fewer = c.in-Some.ensures.steps.1 in
    let all = subst AreTaken steps c.loop-slot.invariant.taken in
    let object = is_taken c.in-Some.slot (into_iter_items c.next.new.self) all in
    let so_far = subst (λ l. (after : List Slot) (qs : List ℕ) → StoredAll c.loop-slot.slots.items after qs l → StoredAll c.reserve.new.self.items after (c.loop-slot.places.items ++ qs) c.args.new.items) steps c.loop-slot.invariant.so_far in
    record {
      len = let l = ap (λ (xs : List Slot). length xs) steps in omega (arith, l, c.loop-slot.invariant.len, fewer);
      taken = rest_taken c.in-Some.slot (into_iter_items c.next.new.self) all;
      so_far = λ after ps h. stored_one_more c.reserve.new.self.items c.loop-slot.slots.items c.store_reserved.new.slots.items after c.loop-slot.places.items c.push_reserved.new.self.items ps c.store_reserved.result object.0 c.in-Some.slot (into_iter_items c.next.new.self) c.args.new.items object.1 (c.store_reserved.ensures.stored object.0 object.1) c.push_reserved.ensures.items so_far h;
      room = omega (arith, c.loop-slot.invariant.room, fewer, c.store_reserved.ensures.len, c.store_reserved.ensures.capacity);
      places = omega (arith, c.loop-slot.invariant.places, fewer, c.push_reserved.ensures.len, c.push_reserved.ensures.capacity);
      few = omega (arith, c.loop-slot.invariant.few, fewer, c.store_reserved.ensures.len);
    }

pub returns-clause-ok : goal.returns-clause-ok
returns-clause-ok c =
    let none = c.in-None.ensures.steps in
    let empty : into_iter_items c.loop-slot.slot-iterator ≡ [] = nil_from_length (into_iter_items c.loop-slot.slot-iterator) (sym c.loop-slot.invariant.len ∙ none.0) in
    let whole = subst (λ l. (after : List Slot) (qs : List ℕ) → StoredAll c.loop-slot.slots.items after qs l → StoredAll c.reserve.new.self.items after (c.loop-slot.places.items ++ qs) c.args.new.items) empty c.loop-slot.invariant.so_far c.loop-slot.slots.items [] refl in
    subst (λ s. StoredAll s c.loop-slot.slots.items c.loop-slot.places.items c.args.new.items) c.reserve.ensures.items (subst (λ l. StoredAll c.reserve.new.self.items c.loop-slot.slots.items l c.args.new.items) (append-nil c.loop-slot.places.items) whole)
