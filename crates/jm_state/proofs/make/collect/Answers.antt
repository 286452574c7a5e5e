use Rattle.std.proofs.Common.{sym, subst, ap}
use Rattle.std.proofs.lemmas.Result.{on_ok_weaker}
use Rattle.jm_world.specs.Matches.{Matches}
use Rattle.jm_state.specs.Parts.{parts}
use Rattle.jm_state.specs.Places.{places_of}
use Rattle.jm_state.specs.Reached.{LeavesReachable}
use Rattle.jm_state.specs.View.{view_of}
use Rattle.jm_state.proofs.Made.{sound, all_resident, kept_back, leaves, places_back}
use Rattle.jm_state.proofs.Runs.{runs_alike}
use Rattle.jm_state.proofs.make.collect.Goals as goal

pub collect-done-requires-clause-sound : goal.collect-done-requires-clause-sound
collect-done-requires-clause-sound g c = sound _ _ _ c.requires

pub collect-done-requires-clause-resident : goal.collect-done-requires-clause-resident
collect-done-requires-clause-resident g c = all_resident _ _ _ c.requires c.in_ok-roots.ensures

pub returns-clause-matches : goal.returns-clause-matches
returns-clause-matches g c w h =
    subst (λ d. Matches (parts c.args.linked.now d (view_of c.put_back.new.state)) w) (sym (ap g.H.Heap.content c.put_back.ensures.heap))
    (kept_back (record { runs = c.requires.0; gathered = c.in_ok-roots.ensures }) c.put_back.ensures.places h c.collect-done.ensures.kept
    c.collect-done.ensures.next)

pub returns-clause-runs : goal.returns-clause-runs
returns-clause-runs g c = runs_alike c.put_back.ensures.places.moved c.requires.0

pub returns-clause-leaves : goal.returns-clause-leaves
returns-clause-leaves g c w h =
    on_ok_weaker c.collect-done.result (λ left. subst (λ x. LeavesReachable c.args.kind x w) (sym (ap g.H.Heap.content c.put_back.ensures.heap))
    (leaves (record { runs = c.requires.0; gathered = c.in_ok-roots.ensures }) h (g.H.Heap.content c.collect-done.new.self) c.args.kind left))
    c.collect-done.ensures.ok

pub returns-clause-word : goal.returns-clause-word
returns-clause-word g c =
    let back = places_back (record { runs = c.requires.0; gathered = c.in_ok-roots.ensures }) c.put_back.ensures.places c.collect-done.ensures.kept in
    let before = places_of (view_of c.args.state.now) in
    on_ok_weaker c.collect-done.result (λ left. subst (λ x. g.H.Heap.leaves c.args.kind c.args.state.now.heap x before (places_of (view_of c.put_back.new.state)))
    (sym c.put_back.ensures.heap)
    (subst (λ new. g.H.Heap.leaves c.args.kind c.args.state.now.heap c.collect-done.new.self before new) back
    (subst (λ old. g.H.Heap.leaves c.args.kind c.args.state.now.heap c.collect-done.new.self old c.collect-done.new.roots) c.in_ok-roots.ensures left)))
    c.collect-done.ensures.leaves
