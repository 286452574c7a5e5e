use Rattle.std.proofs.Common.{◌≡◌, ◌<◌, ◌-◌, ◌∙◌, Some, arith, ap, sym, length}
use Rattle.std.specs.Prelude.{slice_get}
use Rattle.jm_blocks.specs.Places.{place_at}
use Rattle.jm_blocks.specs.Stores.{last_of}
use Rattle.jm_par_copy.proofs.Strides.{above_last, last_few}
use Rattle.jm_par_copy.proofs.store.next_in.Goals as goal

here : (c : goal.After-len) → last_of c.args.store.now.lists ≡ Some c.block.result.now
here c = ap (λ n. slice_get c.args.store.now.lists (n - 1)) (sym c.len-last.ensures.value) ∙ c.block.ensures

pub place-requires-clause-index : goal.place-requires-clause-index
place-requires-clause-index c =
    let few = last_few c.args.store.now c.args.cells c.block.result.now c.requires.room c.requires.cells (here c) in
    let many = c.len.ensures.value in
    omega (arith, few, many)

pub returns : goal.returns
returns c =
    let s = c.args.store.now in
    let below = c.lane.ensures.below in
    let is = c.lane.ensures.value in
    let lane : s.lane < 64 = omega (arith, below, is) in
    let there = ap (slice_get s.lists) (ap (λ n. n - 1) (sym c.len-last.ensures.value)) ∙ c.block.ensures in
    let place = c.place.ensures.value ∙ ap (λ l. place_at l (c.len-last.result - 1) c.len.result) is ∙ ap (λ n. place_at s.lane (n - 1) c.len.result) c.len-last.ensures.value ∙ ap (place_at s.lane (length s.lists - 1)) c.len.ensures.value in
    above_last s c.args.cells c.place.result c.block.result.now lane c.requires.room c.requires.cells there place
