use Rattle.std.proofs.Common.{◌≡◌, ◌≢◌, ◌∙◌, Some, sym, arith, subst}
use Rattle.jm_program.proofs.Sequences.{none_left}
use Rattle.jm_values.proofs.Marking.{last_ready, first_frontier, next_frontier, first_ahead, next_ahead, not_reached, less_is_left}
use Rattle.jm_values.proofs.SoundContents.{name_is}
use Rattle.jm_values.specs.Content.{Reached, name_of, serial_at}
use Rattle.jm_state.proofs.reach.search.Goals as goal

pub loop-place-init : goal.loop-place-init
loop-place-init g c =
    let marked = rw (c.new-seen.ensures.empty, c.new-pending.ensures.items) at c.in_ok-mark_places.ensures in
    (first_frontier c.requires.sound marked, first_ahead c.args.roots.now c.args.serial marked)

pub serial-requires : goal.serial-requires
serial-requires g c = let here = rw c.in-Some.ensures.items at c.loop-place.invariant in (last_ready _ c.in-Some.place here.0).1

pub returns-then-serial : goal.returns-then-serial
returns-then-serial g c =
    let heap = g.H.Heap.content c.args.heap.now in
    let place = c.in-Some.place in
    let here = rw c.in-Some.ensures.items at c.loop-place.invariant in
    let found : c.serial.result ≡ c.args.serial = omega (arith, c.if-serial.true) in
    let lies = subst (λ k. serial_at heap place ≡ Some k) found c.serial.ensures in
    (subst (Reached heap c.args.roots.now) (name_is heap place c.args.serial lies) (last_ready _ place here.0).0, lies)

pub loop-place-preserved : goal.loop-place-preserved
loop-place-preserved g c =
    let heap = g.H.Heap.content c.args.heap.now in
    let place = c.in-Some.place in
    let here = rw c.in-Some.ensures.items at c.loop-place.invariant in
    let differs : name_of heap place ≢ c.args.serial =
    λ e. let i : c.serial.result ≡ c.args.serial = sym (name_is heap place c.serial.result c.serial.ensures) ∙ e in omega (arith, i, c.if-serial.false) in
    (next_frontier c.requires.sound place here.0 c.in_ok-mark_object.ensures, next_ahead place differs here.1 c.in_ok-mark_object.ensures)

pub loop-place-smaller : goal.loop-place-smaller
loop-place-smaller g c =
    let here = rw c.in-Some.ensures.items at c.loop-place.invariant in
    rw c.in-Some.ensures.items (less_is_left c.requires.sound c.in-Some.place here.0 c.in_ok-mark_object.ensures)

pub returns : goal.returns
returns g c =
    let none = none_left c.loop-place.pending.items (omega (arith, c.in_default.ensures.cases.0, c.loop-place.pending.ok.0)) in
    let here = rw none at c.loop-place.invariant in
    not_reached here.0 here.1
