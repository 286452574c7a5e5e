use Rattle.std.proofs.Common.{◌≡◌, List, ◌∙◌, sym, ap, subst}
use Rattle.jm_forward.specs.Hands.{all_known, all_wins}
use Rattle.jm_copy.specs.Condemned.{objects_at}
use Rattle.jm_copy.specs.Copying.{AreForwarded}
use Rattle.jm_par_copy.specs.Copiers.{all_pieces, hands}
use Rattle.jm_par_copy.specs.Ending.{AllLoads, IsCollectedBy, IsPutTogether}
use Rattle.jm_par_copy.specs.Notes.{all_listed}
use Rattle.jm_par_copy.specs.Working.{Pairs}
use Rattle.jm_par_copy.specs.declared.copier.Copier.{Copier}
use Rattle.jm_par_copy.proofs.Collecting.{end_is_collected, held_is_loads, promoted_over}
use Rattle.jm_par_copy.proofs.Crew.{old_lanes}
use Rattle.jm_par_copy.proofs.Meeting.{numbered_are_all}
use Rattle.jm_par_copy.proofs.ending.finish.Goals as goal

pub put_together-requires-clause-lane : goal.put_together-requires-clause-lane
put_together-requires-clause-lane c = old_lanes c.lane.result c.lane.ensures.some c.lane.ensures.below (λ e. c.requires.apart (sym c.lane.ensures.value ∙ e))

pub put_together-requires-clause-loads : goal.put_together-requires-clause-loads
put_together-requires-clause-loads c =
    let other = c.requires.apart in
    subst (λ l. AllLoads 1 l c.args.copiers.now.items c.args.aside.items) (sym c.lane.ensures.value)
    (held_is_loads c.args.from.stores.now c.args.from.roots.now c.args.words.now c.args.copiers.now.items c.args.aside.items 1 c.args.tenured.now c.requires.copying other c.requires.placed)

pub move_all-requires-clause-over : goal.move_all-requires-clause-over
move_all-requires-clause-over c =
    let other = c.requires.apart in
    let together = c.in_ok-young.ensures in
    promoted_over c.args.copiers.now.items c.args.aside.items c.args.tenured.now c.in_ok-young.young c.in_ok-young.promoted other together.young_lane (together.old_lane ∙ c.lane.ensures.value) together.all c.args.from.stores.now c.args.words.now (all_pieces c.args.copiers.now.items c.args.aside.items) c.requires.copying.seated c.requires.placed

pub returns-clause-ok : goal.returns-clause-ok
returns-clause-ok c agree =
    let other = c.requires.apart in
    let together = c.in_ok-young.ensures in
    let put : IsPutTogether c.args.copiers.now.items c.args.aside.items c.args.tenured.now c.in_ok-young.young c.in_ok-young.promoted c.move_all.new.to = record {
      young_lane = together.young_lane;
      promoted_lane = together.old_lane ∙ c.lane.ensures.value;
      tenured_lane = c.move_all.ensures.lane;
      all = together.all;
      old = c.in_ok-move_all.ensures.ok;
    } in
    let forwarded = subst (λ (cs : List Copier). AreForwarded (objects_at c.args.from.stores.now) (Pairs c.args.from.stores.now (all_known (hands cs))) c.args.from.roots.now c.in_ok-roots.roots.items) c.as_slice.ensures.value c.in_ok-roots.ensures.forwarded in
    let pointing : c.in_ok-remembered.remembered.items ≡ all_listed c.args.copiers.now.items c.args.aside.items = c.in_ok-remembered.ensures ∙ ap (λ (cs : List Copier). all_listed cs c.as_slice-3.result.now) c.as_slice-2.ensures.value ∙ ap (λ xs. all_listed c.args.copiers.now.items xs) c.as_slice-3.ensures.value in
    let collected = end_is_collected c.args.from.stores.now c.args.from.roots.now c.in_ok-roots.roots.items c.args.words.now c.args.copiers.now.items c.args.aside.items c.args.tenured.now c.in_ok-young.young c.in_ok-young.promoted c.move_all.new.to
    c.requires.copying c.requires.ended agree
    (numbered_are_all c.args.words.now c.args.copiers.now.items c.requires.numbered c.requires.many.0 c.requires.many.1)
    c.in_ok-roots.ensures.many forwarded other c.requires.placed put in
    subst (λ ps. IsCollectedBy c.args.from.stores.now c.args.tenured.now c.args.from.roots.now (all_wins (hands c.args.copiers.now.items)) c.in_ok-young.young c.move_all.new.to ps c.in_ok-roots.roots.items) (sym pointing) collected
