-- From schedule to schedule.
use Rattle.std.proofs.Common.{◌∙◌, ◌+◌, [], nat_eq, ap, arith, refl, sym}
use Rattle.jm_world.specs.Loading.{loaded_world}
use Rattle.jm_explore.specs.Counts.{below, below_all, exactly, weighed, weight_of}
use Rattle.jm_explore.specs.Lists.{total}
use Rattle.jm_explore.specs.Schedulings.{schedules}
use Rattle.jm_explore.specs.Searches.{founds}
use Rattle.jm_explore.proofs.Counting.{below_start, counted_as, counted_room, nothing_left, tallied_less, tallied_more, tallied_room, tally_next, weighs_if, weighs_if_not}
use Rattle.jm_explore.proofs.Steps.{all_told, known_then, notes_as, popped_none, popped_one, searching_noted, tried_made, tried_not}
use Rattle.jm_explore.proofs.search.search_up_to.Goals as goal

pub loop-branch-init : goal.loop-branch-init
loop-branch-init g c = record {
  known = λ w is old before.
      let found = founds c.args.progress.now.told.items in
      let path = c.first_schedule.new.path.items in
      let made = c.in_ok-first_schedule.ensures.made w is found c.new-path.ensures.items c.new-todo.ensures.items in
      known_then w c.args.bounds.slice c.args.switches c.args.bounds.steps found (founds c.note_end.new.progress.told.items) path c.first_schedule.new.todo.items (old, before) made.0
      (notes_as w c.args.bounds.steps c.args.switches found (founds c.note_end.new.progress.told.items) path c.deref.result.now c.first_schedule.new.machine c.deref.ensures.value (c.in_ok-note_end.ensures.notes w) made.1);
  searching = λ w is.
      let found = founds c.args.progress.now.told.items in
      let path = c.first_schedule.new.path.items in
      let made = c.in_ok-first_schedule.ensures.made w is found c.new-path.ensures.items c.new-todo.ensures.items in
      searching_noted w c.args.bounds.slice c.args.switches c.args.bounds.steps found (founds c.note_end.new.progress.told.items) path c.first_schedule.new.todo.items c.args.switches made.0
      (notes_as w c.args.bounds.steps c.args.switches found (founds c.note_end.new.progress.told.items) path c.deref.result.now c.first_schedule.new.machine c.deref.ensures.value (c.in_ok-note_end.ensures.notes w) made.1);
  counted = λ w most is t.
      let path = c.first_schedule.new.path.items in
      let todo = c.first_schedule.new.todo.items in
      let old = c.args.progress.now.told.items in
      let new = c.note_end.new.progress.told.items in
      let made = c.in_ok-first_schedule.ensures.made w is [] c.new-path.ensures.items c.new-todo.ensures.items in
      let whole = c.in_ok-first_schedule.ensures.weighs w is c.new-path.ensures.items c.new-todo.ensures.items in
      let counted = counted_as w c.args.bounds.steps c.args.switches old new path c.deref.result.now c.first_schedule.new.machine c.deref.ensures.value
      (λ m. c.in_ok-note_end.ensures.counts w m (counted_room most c.take_run.new.runs c.args.progress.now t c.in_ok-take_run.ensures.taken)) made.1 in (
        tallied_more most c.take_run.new.runs c.args.progress.now c.note_end.new.progress (nat_eq c.args.switches 0) t c.in_ok-take_run.ensures.taken c.note_end.ensures.runs
            (c.in_ok-note_end.ensures.schedules (tallied_room most c.take_run.new.runs c.args.progress.now t c.in_ok-take_run.ensures.taken)) (counted (λ _. 1)),
        λ weight.
            let f = exactly w c.args.bounds.slice c.args.switches (weight_of w c.args.bounds.steps weight) in
            tally_next w c.args.bounds.slice c.args.switches c.args.bounds.steps path todo c.args.switches (λ f. below w c.args.bounds.slice c.args.bounds.steps f [] c.args.switches) old new weight
            (weighed weight old + total f (schedules w c.args.bounds.slice c.args.switches c.args.bounds.steps)) whole (counted weight) (ap (λ n. weighed weight old + n) (below_start w c.args.bounds.slice c.args.bounds.steps f c.args.switches)),
      );
  runs = (let less = c.in_ok-take_run.ensures.taken in let same = c.note_end.ensures.runs in omega (arith, less, same));
  linked = c.first_schedule.ensures.linked;
}

pub loop-branch-preserved-then-not-branch : goal.loop-branch-preserved-then-not-branch
loop-branch-preserved-then-not-branch g c = record {
  known = λ w is old before. c.loop-branch.invariant.known w is old before;
  searching = λ w is.
      let i = c.loop-branch.invariant in
      let found = founds c.loop-branch.progress.told.items in
      let popped = popped_one c.loop-branch.todo.items c.pop.new.self.items c.pop.result c.in-Some.branch c.pop.ensures.items c.in-Some.is in
      let at = is ∙ ap (λ l. loaded_world l.program (g.E.EmptyHeaps.limit c.args.heaps.now)) (sym i.linked) in
      tried_not c.in_ok-try_branch.field-0 w c.args.bounds.slice c.args.switches c.args.bounds.steps found c.try_branch.new.path.items c.try_branch.new.todo.items c.try_branch.new.machine c.if-not-branch.true
      (c.in_ok-try_branch.ensures.tried w at c.args.switches found c.loop-branch.todo.items popped (i.searching w is));
  counted = λ w most is t.
      let i = c.loop-branch.invariant in
      let found = founds c.loop-branch.progress.told.items in
      let popped = popped_one c.loop-branch.todo.items c.pop.new.self.items c.pop.result c.in-Some.branch c.pop.ensures.items c.in-Some.is in
      let at = is ∙ ap (λ l. loaded_world l.program (g.E.EmptyHeaps.limit c.args.heaps.now)) (sym i.linked) in
      let before = i.counted w most is t in
      let whole = weighs_if_not c.in_ok-try_branch.field-0 w c.args.bounds.slice c.args.switches c.args.bounds.steps c.try_branch.new.path.items c.try_branch.new.todo.items c.in-Some.branch.left
      (λ f. below_all w c.args.bounds.slice c.args.bounds.steps f c.loop-branch.path.items c.loop-branch.todo.items) c.if-not-branch.true (c.in_ok-try_branch.ensures.weighs w at c.args.switches found c.loop-branch.todo.items popped (i.searching w is)) in (
        tallied_less most c.loop-branch.progress (record { told = c.loop-branch.progress.told; schedules = c.loop-branch.progress.schedules; runs = c.take_run-in-Some.new.runs }) before.0 c.in_ok-take_run-2.ensures.taken refl refl,
        λ weight. ap (λ n. weighed weight c.loop-branch.progress.told.items + n) (sym (whole (exactly w c.args.bounds.slice c.args.switches (weight_of w c.args.bounds.steps weight)))) ∙ before.1 weight,
      );
  runs = (let less = c.in_ok-take_run-2.ensures.taken in let low = c.loop-branch.invariant.runs in omega (arith, less, low));
  linked = c.try_branch.ensures.linked ∙ c.loop-branch.invariant.linked;
}

pub loop-branch-preserved : goal.loop-branch-preserved
loop-branch-preserved g c = record {
  known = λ w is old before.
      let i = c.loop-branch.invariant in
      let found = founds c.loop-branch.progress.told.items in
      let popped = popped_one c.loop-branch.todo.items c.pop.new.self.items c.pop.result c.in-Some.branch c.pop.ensures.items c.in-Some.is in
      let at = is ∙ ap (λ l. loaded_world l.program (g.E.EmptyHeaps.limit c.args.heaps.now)) (sym i.linked) in
      let made = tried_made c.in_ok-try_branch.field-0 w c.args.bounds.slice c.args.switches c.args.bounds.steps found c.try_branch.new.path.items c.try_branch.new.todo.items c.try_branch.new.machine c.if-not-branch.false
      (c.in_ok-try_branch.ensures.tried w at c.args.switches found c.loop-branch.todo.items popped (i.searching w is)) in
      known_then w c.args.bounds.slice c.args.switches c.args.bounds.steps found (founds c.note_end-in-Some.new.progress.told.items) c.try_branch.new.path.items c.try_branch.new.todo.items (i.known w is old before) made.0
      (notes_as w c.args.bounds.steps c.args.switches found (founds c.note_end-in-Some.new.progress.told.items) c.try_branch.new.path.items c.deref-in-Some.result.now c.try_branch.new.machine c.deref-in-Some.ensures.value (c.in_ok-note_end-2.ensures.notes w) made.1);
  searching = λ w is.
      let i = c.loop-branch.invariant in
      let found = founds c.loop-branch.progress.told.items in
      let popped = popped_one c.loop-branch.todo.items c.pop.new.self.items c.pop.result c.in-Some.branch c.pop.ensures.items c.in-Some.is in
      let at = is ∙ ap (λ l. loaded_world l.program (g.E.EmptyHeaps.limit c.args.heaps.now)) (sym i.linked) in
      let made = tried_made c.in_ok-try_branch.field-0 w c.args.bounds.slice c.args.switches c.args.bounds.steps found c.try_branch.new.path.items c.try_branch.new.todo.items c.try_branch.new.machine c.if-not-branch.false
      (c.in_ok-try_branch.ensures.tried w at c.args.switches found c.loop-branch.todo.items popped (i.searching w is)) in
      searching_noted w c.args.bounds.slice c.args.switches c.args.bounds.steps found (founds c.note_end-in-Some.new.progress.told.items) c.try_branch.new.path.items c.try_branch.new.todo.items c.args.switches made.0
      (notes_as w c.args.bounds.steps c.args.switches found (founds c.note_end-in-Some.new.progress.told.items) c.try_branch.new.path.items c.deref-in-Some.result.now c.try_branch.new.machine c.deref-in-Some.ensures.value (c.in_ok-note_end-2.ensures.notes w) made.1);
  counted = λ w most is t.
      let i = c.loop-branch.invariant in
      let old = c.loop-branch.progress.told.items in
      let new = c.note_end-in-Some.new.progress.told.items in
      let path = c.try_branch.new.path.items in
      let found = founds old in
      let popped = popped_one c.loop-branch.todo.items c.pop.new.self.items c.pop.result c.in-Some.branch c.pop.ensures.items c.in-Some.is in
      let at = is ∙ ap (λ l. loaded_world l.program (g.E.EmptyHeaps.limit c.args.heaps.now)) (sym i.linked) in
      let before = i.counted w most is t in
      let made = tried_made c.in_ok-try_branch.field-0 w c.args.bounds.slice c.args.switches c.args.bounds.steps found path c.try_branch.new.todo.items c.try_branch.new.machine c.if-not-branch.false
      (c.in_ok-try_branch.ensures.tried w at c.args.switches found c.loop-branch.todo.items popped (i.searching w is)) in
      let whole = weighs_if c.in_ok-try_branch.field-0 w c.args.bounds.slice c.args.switches c.args.bounds.steps path c.try_branch.new.todo.items c.in-Some.branch.left
      (λ f. below_all w c.args.bounds.slice c.args.bounds.steps f c.loop-branch.path.items c.loop-branch.todo.items) c.if-not-branch.false (c.in_ok-try_branch.ensures.weighs w at c.args.switches found c.loop-branch.todo.items popped (i.searching w is)) in
      let counted = counted_as w c.args.bounds.steps c.in-Some.branch.left old new path c.deref-in-Some.result.now c.try_branch.new.machine c.deref-in-Some.ensures.value
      (λ m. c.in_ok-note_end-2.ensures.counts w m (counted_room most c.take_run-in-Some.new.runs c.loop-branch.progress before.0 c.in_ok-take_run-2.ensures.taken)) made.1 in (
        tallied_more most c.take_run-in-Some.new.runs c.loop-branch.progress c.note_end-in-Some.new.progress (nat_eq c.in-Some.branch.left 0) before.0 c.in_ok-take_run-2.ensures.taken c.note_end-in-Some.ensures.runs
            (c.in_ok-note_end-2.ensures.schedules (tallied_room most c.take_run-in-Some.new.runs c.loop-branch.progress before.0 c.in_ok-take_run-2.ensures.taken)) (counted (λ _. 1)),
        λ weight. tally_next w c.args.bounds.slice c.args.switches c.args.bounds.steps path c.try_branch.new.todo.items c.in-Some.branch.left (λ f. below_all w c.args.bounds.slice c.args.bounds.steps f c.loop-branch.path.items c.loop-branch.todo.items) old new weight
            (weighed weight c.args.progress.now.told.items + total (exactly w c.args.bounds.slice c.args.switches (weight_of w c.args.bounds.steps weight)) (schedules w c.args.bounds.slice c.args.switches c.args.bounds.steps)) whole (counted weight) (before.1 weight),
      );
  runs = (let less = c.in_ok-take_run-2.ensures.taken in let same = c.note_end-in-Some.ensures.runs in let low = c.loop-branch.invariant.runs in omega (arith, less, same, low));
  linked = c.try_branch.ensures.linked ∙ c.loop-branch.invariant.linked;
}

pub returns-clause-known : goal.returns-clause-known
returns-clause-known g c = λ w is old before. (c.loop-branch.invariant.known w is old before).0

pub returns-clause-complete : goal.returns-clause-complete
returns-clause-complete g c = λ w is old before. all_told w c.args.bounds.slice c.args.switches c.args.bounds.steps (founds c.loop-branch.progress.told.items) c.loop-branch.path.items c.loop-branch.todo.items
    (popped_none c.loop-branch.todo.items c.loop-branch.todo.len c.loop-branch.todo.ok.0 c.in_default.ensures.cases.0) (c.loop-branch.invariant.searching w is)

pub returns-clause-counted : goal.returns-clause-counted
returns-clause-counted g c = λ w most is t.
    let i = c.loop-branch.invariant.counted w most is t in (
      i.0,
      λ weight. nothing_left w c.args.bounds.slice c.args.bounds.steps (exactly w c.args.bounds.slice c.args.switches (weight_of w c.args.bounds.steps weight)) c.loop-branch.path.items c.loop-branch.todo.items (weighed weight c.loop-branch.progress.told.items)
          (weighed weight c.args.progress.now.told.items + total (exactly w c.args.bounds.slice c.args.switches (weight_of w c.args.bounds.steps weight)) (schedules w c.args.bounds.slice c.args.switches c.args.bounds.steps))
          (popped_none c.loop-branch.todo.items c.loop-branch.todo.len c.loop-branch.todo.ok.0 c.in_default.ensures.cases.0) (i.1 weight),
    )
