use Rattle.std.proofs.Common.{Ok, Err, refl, sym, subst, ap}
use Rattle.jm_world.specs.Matches.{as_named}
use Rattle.jm_heap.proofs.NewPlaces.{new_there, none_made, none_new_same}
use Rattle.jm_heap.specs.Allocation.{NewLie}
use Rattle.jm_heap.specs.NewObject.{new_object}
use Rattle.jm_state.specs.Ends.{MadeOrNot, halt_from}
use Rattle.jm_state.specs.Parts.{named_type, parts}
use Rattle.jm_state.specs.View.{view_of}
use Rattle.jm_state.proofs.Made.{sound, all_resident, made_back, refused_back}
use Rattle.jm_state.proofs.Runs.{runs_alike}
use Rattle.jm_state.proofs.make.make_with_roots.Goals as goal

pub allocate-made-requires-clause-sound : goal.allocate-made-requires-clause-sound
allocate-made-requires-clause-sound g c = sound _ _ _ c.requires

pub allocate-made-requires-clause-resident : goal.allocate-made-requires-clause-resident
allocate-made-requires-clause-resident g c = all_resident _ _ _ c.requires c.in_ok-roots.ensures

pub returns-in-Ok-clause-made : goal.returns-in-Ok-clause-made
returns-in-Ok-clause-made g c w h =
    let l = c.args.linked.now in
    subst (λ d. MadeOrNot (Ok c.in-Ok.place) (parts l d (view_of c.put_back.new.state)) w (as_named (named_type l.program) (new_object c.args.shape)))
    (sym (ap g.H.Heap.content c.put_back.ensures.heap))
    (made_back (record { runs = c.requires.0; gathered = c.in_ok-roots.ensures }) c.put_back.ensures.places h c.in-Ok.ensures.ok)

pub returns-clause-made : goal.returns-clause-made
returns-clause-made g c w h =
    let l = c.args.linked.now in
    let t = c.put_back.new.state in
    let o = new_object c.args.shape in
    subst (λ r. MadeOrNot (Err r) (parts l (g.H.Heap.content t.heap) (view_of t)) w (as_named (named_type l.program) o)) (sym c.halt_of.ensures)
    (subst (λ d. MadeOrNot (Err (halt_from c.in-Err.fault)) (parts l d (view_of t)) w (as_named (named_type l.program) o))
    (sym (ap g.H.Heap.content c.put_back.ensures.heap))
    (refused_back (record { runs = c.requires.0; gathered = c.in_ok-roots.ensures }) c.put_back.ensures.places c.in-Err.fault o h c.in-Err.ensures.kept
    c.in-Err.ensures.next c.in-Err.ensures.err))

pub returns-in-Ok-clause-runs : goal.returns-in-Ok-clause-runs
returns-in-Ok-clause-runs g c = runs_alike c.put_back.ensures.places.moved c.requires.0

pub returns-clause-runs : goal.returns-clause-runs
returns-clause-runs g c = runs_alike c.put_back.ensures.places.moved c.requires.0

pub returns-in_err-roots-clause-nursery : goal.returns-in_err-roots-clause-nursery
returns-in_err-roots-clause-nursery g c = none_new_same _ _ _ refl

pub returns-in-Ok-clause-nursery : goal.returns-in-Ok-clause-nursery
returns-in-Ok-clause-nursery g c =
    subst (NewLie (λ p. g.H.Heap.nursery_of p c.args.nursery) (g.H.Heap.content c.args.state.now.heap)) (sym (ap g.H.Heap.content c.put_back.ensures.heap))
    (new_there _ _ _ c.in-Ok.ensures.ok.kept.sound c.allocate-made.ensures.as_before _ c.in-Ok.ensures.ok.placed c.in-Ok.ensures.nursery)

pub returns-clause-nursery : goal.returns-clause-nursery
returns-clause-nursery g c =
    subst (NewLie (λ p. g.H.Heap.nursery_of p c.args.nursery) (g.H.Heap.content c.args.state.now.heap)) (sym (ap g.H.Heap.content c.put_back.ensures.heap))
    (none_made _ _ _ c.in-Err.ensures.kept.sound c.allocate-made.ensures.as_before c.in-Err.ensures.next)
