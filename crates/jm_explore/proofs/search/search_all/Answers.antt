-- One switch more.
use Rattle.std.proofs.Common.{◌≡◌, ◌∙◌, ◌≤◌, ℕ, ap, arith, refl, subst, sym}
use Rattle.std.proofs.lemmas.Result.{IfOk-weaker}
use Rattle.jm_world.specs.Loading.{loaded_world}
use Rattle.jm_explore.specs.Counts.{CountsAll, CountsMore, Tallied}
use Rattle.jm_explore.specs.Searches.{AllBefore, Known, founds}
use Rattle.jm_explore.proofs.Counting.{CountsBefore, counts_all, counts_before, counts_none}
use Rattle.jm_explore.proofs.Steps.{all_before, known_more, known_nothing, known_up_to, none_before}
use Rattle.jm_explore.proofs.search.search_all.Goals as goal

pub loop-switches-init : goal.loop-switches-init
loop-switches-init g c = record {
  known = λ w is none. (known_nothing w c.args.bounds.slice c.args.bounds.steps (founds c.args.progress.now.told.items) (ap founds none), none_before w c.args.bounds.slice c.args.bounds.steps (founds c.args.progress.now.told.items));
  counted = λ w most is none t. (t, counts_none w c.args.bounds.slice c.args.bounds.steps c.args.progress.now.told.items none);
  runs = omega arith;
  low = omega arith;
  linked = refl;
}

pub loop-switches-preserved : goal.loop-switches-preserved
loop-switches-preserved g c = record {
  known = λ w is none.
      let i = c.loop-switches.invariant in
      let k = i.known w is none in
      let at = is ∙ ap (λ l. loaded_world l.program (g.E.EmptyHeaps.limit c.args.heaps.now)) (sym i.linked) in
      let found = founds c.search_up_to.new.progress.told.items in (
        known_more w c.args.bounds.slice c.loop-switches.switches c.args.bounds.steps found (c.search_up_to.ensures.known w at k.0 k.1),
        all_before w c.args.bounds.slice c.loop-switches.switches c.args.bounds.steps found (c.in_ok-search_up_to.ensures.complete w at k.0 k.1),
      );
  counted = λ w most is none t.
      let i = c.loop-switches.invariant in
      let k = i.counted w most is none t in
      let at = is ∙ ap (λ l. loaded_world l.program (g.E.EmptyHeaps.limit c.args.heaps.now)) (sym i.linked) in
      let more = c.in_ok-search_up_to.ensures.counted w most at k.0 in (
        more.0,
        counts_before w c.args.bounds.slice c.loop-switches.switches c.args.bounds.steps c.search_up_to.new.progress.told.items
            (counts_all w c.args.bounds.slice c.loop-switches.switches c.args.bounds.steps c.loop-switches.progress.told.items c.search_up_to.new.progress.told.items k.1 more.1),
      );
  runs = (let less = c.search_up_to.ensures.runs in let low = c.loop-switches.invariant.runs in omega (arith, less, low));
  low = (let low = c.loop-switches-test.true in omega (arith, low));
  linked = c.search_up_to.ensures.linked ∙ c.loop-switches.invariant.linked;
}

pub returns-in_err-search_up_to-clause-known : goal.returns-in_err-search_up_to-clause-known
returns-in_err-search_up_to-clause-known g c = λ w is none.
    let i = c.loop-switches.invariant in
    let k = i.known w is none in
    let at = is ∙ ap (λ l. loaded_world l.program (g.E.EmptyHeaps.limit c.args.heaps.now)) (sym i.linked) in
    known_up_to w c.args.bounds.slice c.loop-switches.switches c.args.bounds.switches c.args.bounds.steps (founds c.search_up_to.new.progress.told.items) i.low (c.search_up_to.ensures.known w at k.0 k.1)

all_fewer : (n m : ℕ) → n ≤ m → m ≤ n → n ≡ m
all_fewer n m low high = omega (arith, low, high)

pub returns-clause-known : goal.returns-clause-known
returns-clause-known g c = λ w is none.
    let i = c.loop-switches.invariant in
    let found = founds c.loop-switches.progress.told.items in
    let k = subst (λ n. Known w c.args.bounds.slice n c.args.bounds.steps found × AllBefore w c.args.bounds.slice n c.args.bounds.steps found) (all_fewer c.loop-switches.switches c.args.bounds.switches i.low c.loop-switches-test.false) (i.known w is none) in
    let at = is ∙ ap (λ l. loaded_world l.program (g.E.EmptyHeaps.limit c.args.heaps.now)) (sym i.linked) in
    c.search_up_to-2.ensures.known w at k.0 k.1

pub returns-clause-complete : goal.returns-clause-complete
returns-clause-complete g c = λ w is none.
    let i = c.loop-switches.invariant in
    let found = founds c.loop-switches.progress.told.items in
    let k = subst (λ n. Known w c.args.bounds.slice n c.args.bounds.steps found × AllBefore w c.args.bounds.slice n c.args.bounds.steps found) (all_fewer c.loop-switches.switches c.args.bounds.switches i.low c.loop-switches-test.false) (i.known w is none) in
    let at = is ∙ ap (λ l. loaded_world l.program (g.E.EmptyHeaps.limit c.args.heaps.now)) (sym i.linked) in
    c.search_up_to-2.ensures.complete w at k.0 k.1

pub returns-clause-counted : goal.returns-clause-counted
returns-clause-counted g c = λ w most is none t.
    let i = c.loop-switches.invariant in
    let last = all_fewer c.loop-switches.switches c.args.bounds.switches i.low c.loop-switches-test.false in
    let k = i.counted w most is none t in
    let at = is ∙ ap (λ l. loaded_world l.program (g.E.EmptyHeaps.limit c.args.heaps.now)) (sym i.linked) in
    IfOk-weaker c.search_up_to-2.result (λ _. Tallied most c.search_up_to-2.new.progress × CountsMore w c.args.bounds.slice c.args.bounds.switches c.args.bounds.steps c.loop-switches.progress.told.items c.search_up_to-2.new.progress.told.items)
    (λ _. Tallied most c.search_up_to-2.new.progress × CountsAll w c.args.bounds.slice c.args.bounds.switches c.args.bounds.steps c.search_up_to-2.new.progress.told.items)
    (λ _ more. (more.0, counts_all w c.args.bounds.slice c.args.bounds.switches c.args.bounds.steps c.loop-switches.progress.told.items c.search_up_to-2.new.progress.told.items (subst (λ n. CountsBefore w c.args.bounds.slice n c.args.bounds.steps c.loop-switches.progress.told.items) last k.1) more.1))
    (c.search_up_to-2.ensures.counted w most at k.0)
