-- The threads in order, up to the first that can go.
use Rattle.std.proofs.Common.{◌+◌, ◌∙◌, ◌≤◌, sym, subst, refl}
use Rattle.jm_explore.proofs.Offers.{at_most_zero, leaves_free, leaves_into, no_one_goes, none_up_to, truncated, went_false, went_true}
use Rattle.jm_explore.proofs.thread.go_elsewhere.Goals as goal

pub loop-index-init : goal.loop-index-init
loop-index-init g c = record {
  matches = λ w m. m;
  none = λ w m s low. at_most_zero w s low;
  todo = λ w m. refl;
  linked = refl;
}

pub returns-then-branch-clause-went : goal.returns-then-branch-clause-went
returns-then-branch-clause-went g c = λ w m gone.
    let i = c.loop-index.invariant in
    let told = c.in_ok-went.ensures.went w (i.matches w m) in (
      sym told.0 ∙ c.if-branch.true,
      refl,
      leaves_into w (λ _. 0) c.args.left c.args.behind (c.loop-index.index + 1) c.loop-index.todo.items c.args.todo.now.items c.push_live.new.todo.items (i.todo w m)
          (leaves_free w c.args.behind c.args.left c.args.skipped c.loop-index.index c.loop-index.todo.items c.push_live.new.todo.items gone (i.none w m) (c.in_ok-push_live.ensures w (i.matches w m))),
      went_true c.in_ok-went.field-0 w (c.loop-index.index + 1) c.went.new.machine c.if-branch.true told.1,
    )

pub loop-index-preserved : goal.loop-index-preserved
loop-index-preserved g c =
    let i = c.loop-index.invariant in
    record {
      matches = λ w m. let told = c.in_ok-went.ensures.went w (i.matches w m) in went_false c.in_ok-went.field-0 w (c.loop-index.index + 1) c.went.new.machine c.if-branch.false told.1;
      none = λ w m. let told = c.in_ok-went.ensures.went w (i.matches w m) in none_up_to w c.loop-index.index (i.none w m) (sym told.0 ∙ c.if-branch.false);
      todo = λ w m. let a = c.in_ok-push_live.ensures w (i.matches w m) in truncated c.loop-index.todo.items a.added c.push_live.new.todo.items c.truncate.new.self.items c.len-kept.result a.new_is (c.len-kept.ensures ∙ c.loop-index.todo.ok.0) c.truncate.ensures.items ∙ i.todo w m;
      linked = c.went.ensures.linked ∙ i.linked;
    }

pub returns-clause-went : goal.returns-clause-went
returns-clause-went g c = λ w m gone.
    let i = c.loop-index.invariant in
    (no_one_goes w c.loop-index.index (subst (λ n. n ≤ c.loop-index.index) (c.threads-index-end.ensures w m) c.loop-index-test.false) (i.none w m), i.todo w m, i.matches w m)
