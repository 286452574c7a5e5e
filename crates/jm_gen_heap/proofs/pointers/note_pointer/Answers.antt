use Rattle.std.proofs.lemmas.Result.{on_ok_weaker}
use Rattle.jm_gen_heap.proofs.Noting.{grows_tried, covers_noted}
use Rattle.jm_gen_heap.proofs.pointers.note_pointer.Goals as goal

pub returns-then-points_to_young-clause-grows : goal.returns-then-points_to_young-clause-grows
returns-then-points_to_young-clause-grows c = grows_tried c.note.result c.args.noted.now c.note.new.self c.args.place c.note.ensures.ok c.note.ensures.err

pub returns-then-points_to_young-clause-ok : goal.returns-then-points_to_young-clause-ok
returns-then-points_to_young-clause-ok c = on_ok_weaker c.note.result (covers_noted c.args.store.now c.args.noted.now c.note.new.self c.args.place) c.note.ensures.ok
