use Rattle.std.proofs.Common.{Ok, Err, refl, sym, subst, ap}
use Rattle.std.specs.Prelude.{length, map}
use Rattle.jm_values.specs.ArraysOfArrays.{tree}
use Rattle.jm_world.specs.Matches.{as_named}
use Rattle.jm_heap.proofs.NewPlaces.{none_new_same}
use Rattle.jm_heap.specs.Allocation.{NewLie}
use Rattle.jm_heap.specs.Trees.{dimensions_of}
use Rattle.jm_state.specs.Ends.{MadeAllOrNot, halt_from}
use Rattle.jm_state.specs.Parts.{named_type, parts}
use Rattle.jm_state.specs.View.{view_of}
use Rattle.jm_state.proofs.Made.{sound, all_resident, all_made_back, all_refused_back}
use Rattle.jm_state.proofs.Runs.{runs_alike}
use Rattle.jm_state.proofs.make.make_arrays.Goals as goal

pub make_arrays-made-requires-clause-sound : goal.make_arrays-made-requires-clause-sound
make_arrays-made-requires-clause-sound g c = sound _ _ _ c.requires.runs

pub make_arrays-made-requires-clause-resident : goal.make_arrays-made-requires-clause-resident
make_arrays-made-requires-clause-resident g c = all_resident _ _ _ c.requires.runs c.in_ok-roots.ensures

pub returns-in-Ok-clause-made : goal.returns-in-Ok-clause-made
returns-in-Ok-clause-made g c w h =
    let l = c.args.linked.now in
    let made = tree (dimensions_of c.args.component c.args.counts.now) in
    subst (λ d. MadeAllOrNot (Ok c.in-Ok.place) (parts l d (view_of c.put_back.new.state)) w (map (as_named (named_type l.program)) (made (length w.heap))))
    (sym (ap g.H.Heap.content c.put_back.ensures.heap))
    (all_made_back (record { runs = c.requires.runs.0; gathered = c.in_ok-roots.ensures }) c.put_back.ensures.places made h c.in-Ok.ensures.ok)

pub returns-clause-made : goal.returns-clause-made
returns-clause-made g c w h =
    let l = c.args.linked.now in
    let t = c.put_back.new.state in
    let made = tree (dimensions_of c.args.component c.args.counts.now) in
    let os = map (as_named (named_type l.program)) (made (length w.heap)) in
    subst (λ r. MadeAllOrNot (Err r) (parts l (g.H.Heap.content t.heap) (view_of t)) w os) (sym c.halt_of.ensures)
    (subst (λ d. MadeAllOrNot (Err (halt_from c.in-Err.fault)) (parts l d (view_of t)) w os) (sym (ap g.H.Heap.content c.put_back.ensures.heap))
    (all_refused_back (record { runs = c.requires.runs.0; gathered = c.in_ok-roots.ensures }) c.put_back.ensures.places c.in-Err.fault made h c.in-Err.ensures.kept
    c.in-Err.ensures.next c.in-Err.ensures.err))

pub returns-in-Ok-clause-runs : goal.returns-in-Ok-clause-runs
returns-in-Ok-clause-runs g c = runs_alike c.put_back.ensures.places.moved c.requires.runs.0

pub returns-clause-runs : goal.returns-clause-runs
returns-clause-runs g c = runs_alike c.put_back.ensures.places.moved c.requires.runs.0

pub returns-in_err-roots-clause-nursery : goal.returns-in_err-roots-clause-nursery
returns-in_err-roots-clause-nursery g c = none_new_same _ _ _ refl

pub returns-in-Ok-clause-nursery : goal.returns-in-Ok-clause-nursery
returns-in-Ok-clause-nursery g c =
    subst (NewLie (λ p. g.H.Heap.nursery_of p c.args.nursery) (g.H.Heap.content c.args.state.now.heap)) (sym (ap g.H.Heap.content c.put_back.ensures.heap))
    c.make_arrays-made.ensures.nursery

pub returns-clause-nursery : goal.returns-clause-nursery
returns-clause-nursery g c =
    subst (NewLie (λ p. g.H.Heap.nursery_of p c.args.nursery) (g.H.Heap.content c.args.state.now.heap)) (sym (ap g.H.Heap.content c.put_back.ensures.heap))
    c.make_arrays-made.ensures.nursery
