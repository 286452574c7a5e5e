use Rattle.std.proofs.Common.{◌≡◌, ◌∷◌, [], ℕ, List, Some, refl, subst, arith, ap, length, sym}
use Rattle.std.specs.Prelude.{slice_get}
use Rattle.std.proofs.lemmas.List.{length-append}
use Rattle.std.proofs.lemmas.Option.{slice_get_read}
use Rattle.jm_blocks.specs.Stores.{Blocks}
use Rattle.jm_copy.specs.Numbers.{before, lane_count, lane_counts, AreStarts}
use Rattle.jm_copy.proofs.Numbering.{before_more, numbers_more}
use Rattle.jm_copy.proofs.starts.number_all.Goals as goal
use Rattle.jm_values.proofs.Lists.{get_map}

pub loop-store-preserved : goal.loop-store-preserved
loop-store-preserved c =
    let stores = c.args.stores.now in
    let numbers = c.loop-store.numbers.items in
    let n = c.loop-store.store-index in
    let starts = c.in_ok-starts.starts in
    let invariant = c.loop-store.invariant in
    let here : slice_get stores n ≡ Some c.store-item.result = slice_get_read stores (length stores) n c.store-item.result refl c.loop-store-test.true c.store-item.is in
    let more = before_more (lane_counts stores) n (lane_count c.store-item.result) (get_map lane_count stores n c.store-item.result here) in
    let family : List (List ℕ) → Type 0 = λ xss. (k : ℕ) (s : Blocks) (xs : List ℕ) → slice_get stores k ≡ Some s → slice_get xss k ≡ Some xs → AreStarts (before k (lane_counts stores)) s xs in
    record {
      many = omega (arith, ap length c.push_reserved.ensures.items, length-append numbers (starts ∷ []), invariant.many);
      each = subst family (sym c.push_reserved.ensures.items) (numbers_more stores numbers c.store-item.result starts n c.loop-store.count invariant.many here invariant.count c.in_ok-starts.ensures.starts invariant.each);
      count = omega (arith, invariant.count, c.in_ok-starts.ensures.count, more);
      few = omega (arith, invariant.few, c.in_ok-starts.ensures.few);
      room = omega (arith, invariant.room, c.push_reserved.ensures.capacity);
    }
