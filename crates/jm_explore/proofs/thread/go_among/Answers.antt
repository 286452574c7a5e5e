-- The threads in order, up to the first that can go.
use Rattle.std.proofs.Common.{true, ◌+◌, ◌∙◌, arith, subst, refl}
use Rattle.jm_explore.specs.Branches.{GoesOn}
use Rattle.jm_explore.proofs.Offers.{found_at, found_none, goes_on_not, goes_on_true, none_above, none_above_more}
use Rattle.jm_explore.proofs.thread.go_among.Goals as goal

pub loop-index-init : goal.loop-index-init
loop-index-init g c = record {
  matches = λ w m. m;
  none = λ w m. none_above w c.args.from c.args.from (omega arith);
  low = omega arith;
  todo = λ w m. refl;
  linked = refl;
}

pub returns-then-branch-clause-went : goal.returns-then-branch-clause-went
returns-then-branch-clause-went g c = λ w m.
    let i = c.loop-index.invariant in
    let on = goes_on_true c.in_ok-go_on.field-0 w (c.loop-index.index + 1) c.args.left c.args.behind c.loop-index.todo.items c.go_on.new.todo.items c.go_on.new.machine c.if-branch.true (c.in_ok-go_on.ensures.went w (i.matches w m)) in (
      found_at w c.args.from c.args.to c.loop-index.index i.low c.loop-index-test.true (i.none w m) on.0,
      subst (λ bs. GoesOn true w (c.loop-index.index + 1) c.args.left c.args.behind bs c.go_on.new.todo.items c.go_on.new.machine) (i.todo w m) on,
    )

pub loop-index-preserved : goal.loop-index-preserved
loop-index-preserved g c =
    let i = c.loop-index.invariant in
    record {
      matches = λ w m. (goes_on_not c.in_ok-go_on.field-0 w (c.loop-index.index + 1) c.args.left c.args.behind c.loop-index.todo.items c.go_on.new.todo.items c.go_on.new.machine c.if-branch.false (c.in_ok-go_on.ensures.went w (i.matches w m))).2;
      none = λ w m. none_above_more w c.args.from c.loop-index.index (i.none w m)
          (goes_on_not c.in_ok-go_on.field-0 w (c.loop-index.index + 1) c.args.left c.args.behind c.loop-index.todo.items c.go_on.new.todo.items c.go_on.new.machine c.if-branch.false (c.in_ok-go_on.ensures.went w (i.matches w m))).0;
      low = (let low = i.low in omega (arith, low));
      todo = λ w m. (goes_on_not c.in_ok-go_on.field-0 w (c.loop-index.index + 1) c.args.left c.args.behind c.loop-index.todo.items c.go_on.new.todo.items c.go_on.new.machine c.if-branch.false (c.in_ok-go_on.ensures.went w (i.matches w m))).1 ∙ i.todo w m;
      linked = c.go_on.ensures.linked ∙ i.linked;
    }

pub returns-clause-went : goal.returns-clause-went
returns-clause-went g c = λ w m.
    let i = c.loop-index.invariant in
    (found_none w c.args.from c.args.to c.loop-index.index c.loop-index-test.false (i.none w m), i.todo w m, i.matches w m)
