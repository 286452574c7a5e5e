-- One event more, or the schedule is whole.
use Rattle.std.proofs.Common.{◌≤◌, ◌<◌, ◌+◌, ◌∙◌, Some, ap, length, refl, subst}
use Rattle.jm_explore.specs.Branches.{Advances}
use Rattle.jm_explore.specs.Switches.{switch, world_after}
use Rattle.jm_explore.specs.Counts.{below, below_all}
use Rattle.jm_explore.proofs.Counting.{weighs_at_end, weighs_at_limit, weighs_more}
use Rattle.jm_explore.proofs.Steps.{made_at_end, made_at_limit, made_before, making_next}
use Rattle.jm_explore.proofs.search.extend.Goals as goal

pub loop-bounds-init : goal.loop-bounds-init
loop-bounds-init g c = record {
  making = λ w most found is first m. (is, first, m);
  weighs = λ w most found is first m f. refl;
  linked = refl;
}

pub loop-bounds-preserved : goal.loop-bounds-preserved
loop-bounds-preserved g c = record {
  making = λ w most found is first m.
      let i = c.loop-bounds.invariant.making w most found is first m in
      let v = world_after w c.loop-bounds.path.items in
      let cost = switch v c.args.bounds.slice c.loop-bounds.last in
      let a = subst (λ n. Advances v cost c.args.left n c.loop-bounds.todo.items c.advance.new.todo.items c.advance.new.machine c.in_ok-thread.field-0)
      (c.len-in-loop-bounds.ensures ∙ c.loop-bounds.path.ok.0) (c.in_ok-thread.ensures.went v i.2) in
      let b = subst (λ o. Advances v cost c.args.left (length c.loop-bounds.path.items) c.loop-bounds.todo.items c.advance.new.todo.items c.advance.new.machine o) c.in-Some.is a in
      let low = subst (λ n. n < c.args.bounds.steps) (c.len.ensures ∙ c.loop-bounds.path.ok.0) c.loop-bounds-test.true in
      let next = making_next w c.args.bounds.slice most c.args.bounds.steps c.args.left found c.loop-bounds.path.items c.push.new.self.items c.loop-bounds.todo.items c.advance.new.todo.items c.loop-bounds.last c.advance.new.machine
      c.in-Some.thread low (i.0, i.1) b c.in-Ok.ensures.items in
      (next.0, ap (λ t. Some t) c.next_turn.ensures ∙ next.1, next.2);
  weighs = λ w most found is first m f.
      let i = c.loop-bounds.invariant.making w most found is first m in
      let v = world_after w c.loop-bounds.path.items in
      let cost = switch v c.args.bounds.slice c.loop-bounds.last in
      let a = subst (λ n. Advances v cost c.args.left n c.loop-bounds.todo.items c.advance.new.todo.items c.advance.new.machine c.in_ok-thread.field-0)
      (c.len-in-loop-bounds.ensures ∙ c.loop-bounds.path.ok.0) (c.in_ok-thread.ensures.went v i.2) in
      let b = subst (λ o. Advances v cost c.args.left (length c.loop-bounds.path.items) c.loop-bounds.todo.items c.advance.new.todo.items c.advance.new.machine o) c.in-Some.is a in
      let low = subst (λ n. n < c.args.bounds.steps) (c.len.ensures ∙ c.loop-bounds.path.ok.0) c.loop-bounds-test.true in
      c.loop-bounds.invariant.weighs w most found is first m f
      ∙ weighs_more w c.args.bounds.slice most c.args.bounds.steps found c.loop-bounds.path.items c.loop-bounds.todo.items c.args.left i.0 c.push.new.self.items c.advance.new.todo.items c.loop-bounds.last c.advance.new.machine
      c.in-Some.thread low i.1 b c.in-Ok.ensures.items f;
  linked = c.advance.ensures.linked ∙ c.loop-bounds.invariant.linked;
}

pub returns-clause-made : goal.returns-clause-made
returns-clause-made g c = λ w most found is first m.
    let i = c.loop-bounds.invariant.making w most found is first m in
    (made_at_limit w c.args.bounds.slice most c.args.bounds.steps found c.loop-bounds.path.items c.loop-bounds.todo.items c.args.left i.0 (subst (λ n. c.args.bounds.steps ≤ n) (c.len.ensures ∙ c.loop-bounds.path.ok.0) c.loop-bounds-test.false), i.2)

pub returns-in-None-clause-made : goal.returns-in-None-clause-made
returns-in-None-clause-made g c = λ w most found is first m.
    let i = c.loop-bounds.invariant.making w most found is first m in
    let v = world_after w c.loop-bounds.path.items in
    let a = subst (λ o. Advances v (switch v c.args.bounds.slice c.loop-bounds.last) c.args.left c.len-in-loop-bounds.result c.loop-bounds.todo.items c.advance.new.todo.items c.advance.new.machine o)
    c.in-None.is (c.in_ok-thread.ensures.went v i.2) in (
      made_before w c.args.bounds.slice most c.args.bounds.steps found c.loop-bounds.path.items c.loop-bounds.todo.items c.advance.new.todo.items a.1
          (made_at_end w c.args.bounds.slice most c.args.bounds.steps found c.loop-bounds.path.items c.loop-bounds.todo.items c.args.left i.0 a.0),
      a.2,
    )

pub returns-clause-weighs : goal.returns-clause-weighs
returns-clause-weighs g c = λ w most found is first m.
    let i = c.loop-bounds.invariant.making w most found is first m in
    weighs_at_limit w c.args.bounds.slice most c.args.bounds.steps found c.loop-bounds.path.items c.loop-bounds.todo.items c.args.left i.0
    (λ f. below w c.args.bounds.slice c.args.bounds.steps f c.args.path.now.items c.args.left + below_all w c.args.bounds.slice c.args.bounds.steps f c.args.path.now.items c.args.todo.now.items)
    (subst (λ n. c.args.bounds.steps ≤ n) (c.len.ensures ∙ c.loop-bounds.path.ok.0) c.loop-bounds-test.false) (λ f. c.loop-bounds.invariant.weighs w most found is first m f)

pub returns-in-None-clause-weighs : goal.returns-in-None-clause-weighs
returns-in-None-clause-weighs g c = λ w most found is first m.
    let i = c.loop-bounds.invariant.making w most found is first m in
    let v = world_after w c.loop-bounds.path.items in
    let a = subst (λ o. Advances v (switch v c.args.bounds.slice c.loop-bounds.last) c.args.left c.len-in-loop-bounds.result c.loop-bounds.todo.items c.advance.new.todo.items c.advance.new.machine o)
    c.in-None.is (c.in_ok-thread.ensures.went v i.2) in
    weighs_at_end w c.args.bounds.slice most c.args.bounds.steps found c.loop-bounds.path.items c.loop-bounds.todo.items c.args.left i.0
    (λ f. below w c.args.bounds.slice c.args.bounds.steps f c.args.path.now.items c.args.left + below_all w c.args.bounds.slice c.args.bounds.steps f c.args.path.now.items c.args.todo.now.items)
    c.advance.new.todo.items a.0 a.1 (λ f. c.loop-bounds.invariant.weighs w most found is first m f)
