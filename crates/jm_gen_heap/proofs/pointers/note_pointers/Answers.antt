use Rattle.std.proofs.Common.{◌+◌, take}
use Rattle.jm_gen_heap.proofs.Noting.{among_taken, grows_more, grows_step, covers_step}
use Rattle.jm_gen_heap.proofs.pointers.note_pointers.Goals as goal

pub returns-in_err-note_pointer-clause-grows : goal.returns-in_err-note_pointer-clause-grows
returns-in_err-note_pointer-clause-grows c =
    let ps = c.args.places.now in
    let i = c.loop-place.place-index in
    let g = grows_step ps i c.place-item.result c.args.noted.now c.loop-place.noted c.note_pointer.new.noted c.loop-place-test.true c.place-item.is c.loop-place.invariant.grows c.note_pointer.ensures.grows in
    grows_more (take (i + 1) ps) ps c.args.noted.now c.note_pointer.new.noted (among_taken (i + 1) ps) g

pub loop-place-preserved : goal.loop-place-preserved
loop-place-preserved c =
    let ps = c.args.places.now in
    let i = c.loop-place.place-index in
    let new = c.note_pointer.new.noted in
    record {
      grows = grows_step ps i c.place-item.result c.args.noted.now c.loop-place.noted new c.loop-place-test.true c.place-item.is c.loop-place.invariant.grows c.note_pointer.ensures.grows;
      covers = covers_step c.args.store.now ps i c.place-item.result c.loop-place.noted new c.loop-place-test.true c.place-item.is c.loop-place.invariant.covers c.note_pointer.ensures.grows c.in_ok-note_pointer.ensures.ok;
    }
