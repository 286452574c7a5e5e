-- What was found so far is true.
use Rattle.std.proofs.Common.{refl, ◌≤◌, ◌≡◌, ◌∙◌, Result, Ok, Err, Some, None, arith, subst, sym}
use Rattle.std.specs.Prelude.{IfOk, IfErr, IfSome}
use Rattle.std.specs.Result.{result_err}
use Rattle.std.proofs.lemmas.Option.{none-some}
use Rattle.jm_world.specs.Loading.{loaded_world}
use Rattle.jm_explore.specs.Outcomes.{HasFewest, IsTrueOf, outcome_of}
use Rattle.jm_explore.specs.Searches.{founds}
use Rattle.jm_explore.specs.declared.unfinished.Unfinished.{Unfinished}
use Rattle.jm_explore.specs.declared.unfinished.Unfinished.TheVariants as unfinished
use Rattle.jm_explore.proofs.Counting.{all_are_counted, all_shares}
use Rattle.jm_explore.proofs.Lists.{all_of, any_of}
use Rattle.jm_explore.proofs.exploration.explore.Goals as goal

-- an answer without an error
whole : {T E : Type 0} (P : Type 0) (r : Result T E) → result_err r ≡ None → IfOk r (λ _. P) → P
whole P (Ok x) is h = h
whole P (Err why) is h = absurd (none-some why (sym is))

-- the error of an answer
broken : {T E : Type 0} (P : E → Type 0) (r : Result T E) (why : E) → result_err r ≡ Some why → IfErr r P → P why
broken P (Ok x) why is h = absurd (none-some why is)
broken P (Err other) why is h = subst (λ o. IfSome o P) is h

pub returns-clause-sound : goal.returns-clause-sound
returns-clause-sound g c =
    let w = loaded_world c.args.machine.now.linked.program (g.E.EmptyHeaps.limit c.args.heaps.now) in
    all_of (IsTrueOf w c.args.bounds.slice c.args.bounds.steps) (founds c.search_all.new.progress.told.items) (c.search_all.ensures.known w refl c.nothing_found-progress.ensures.none).sound

pub returns-clause-within : goal.returns-clause-within
returns-clause-within g c =
    let w = loaded_world c.args.machine.now.linked.program (g.E.EmptyHeaps.limit c.args.heaps.now) in
    all_of (λ f. f.switches ≤ c.args.bounds.switches) (founds c.search_all.new.progress.told.items) (c.search_all.ensures.known w refl c.nothing_found-progress.ensures.none).low

pub returns-clause-fewest : goal.returns-clause-fewest
returns-clause-fewest g c =
    let w = loaded_world c.args.machine.now.linked.program (g.E.EmptyHeaps.limit c.args.heaps.now) in
    all_of (HasFewest w c.args.bounds.slice c.args.bounds.steps) (founds c.search_all.new.progress.told.items) (c.search_all.ensures.known w refl c.nothing_found-progress.ensures.none).fewest

pub returns-clause-other : goal.returns-clause-other
returns-clause-other g c =
    let w = loaded_world c.args.machine.now.linked.program (g.E.EmptyHeaps.limit c.args.heaps.now) in
    (c.search_all.ensures.known w refl c.nothing_found-progress.ensures.none).other

pub returns-clause-complete : goal.returns-clause-complete
returns-clause-complete g c = λ none ts s.
    let w = loaded_world c.args.machine.now.linked.program (g.E.EmptyHeaps.limit c.args.heaps.now) in
    any_of (λ f. f.outcome ≡ outcome_of w c.args.bounds.steps ts) (founds c.search_all.new.progress.told.items)
    (whole _ c.search_all.result (sym c.err-unfinished.ensures.value ∙ none) (c.search_all.ensures.complete w refl c.nothing_found-progress.ensures.none) ts s)

pub returns-clause-counts : goal.returns-clause-counts
returns-clause-counts g c = λ none.
    let w = loaded_world c.args.machine.now.linked.program (g.E.EmptyHeaps.limit c.args.heaps.now) in
    let k = whole _ c.search_all.result (sym c.err-unfinished.ensures.value ∙ none)
    (c.search_all.ensures.counted w c.args.bounds.runs refl c.nothing_found-progress.ensures.none c.nothing_found-progress.ensures.tallied) in
    k.0.counted ∙ all_are_counted w c.args.bounds.slice c.args.bounds.switches c.args.bounds.steps c.search_all.new.progress.told.items k.1

pub returns-clause-shares : goal.returns-clause-shares
returns-clause-shares g c = λ none.
    let w = loaded_world c.args.machine.now.linked.program (g.E.EmptyHeaps.limit c.args.heaps.now) in
    let k = whole _ c.search_all.result (sym c.err-unfinished.ensures.value ∙ none)
    (c.search_all.ensures.counted w c.args.bounds.runs refl c.nothing_found-progress.ensures.none c.nothing_found-progress.ensures.tallied) in
    all_shares w c.args.bounds.slice c.args.bounds.switches c.args.bounds.steps c.search_all.new.progress.told.items (c.search_all.ensures.known w refl c.nothing_found-progress.ensures.none).other k.1

pub returns-clause-made : goal.returns-clause-made
returns-clause-made g c = λ none.
    let w = loaded_world c.args.machine.now.linked.program (g.E.EmptyHeaps.limit c.args.heaps.now) in
    let k = whole _ c.search_all.result (sym c.err-unfinished.ensures.value ∙ none)
    (c.search_all.ensures.counted w c.args.bounds.runs refl c.nothing_found-progress.ensures.none c.nothing_found-progress.ensures.tallied) in
    let within = k.0.within in
    omega (arith, within)

pub returns-clause-ends : goal.returns-clause-ends
returns-clause-ends g c = λ is.
    let spent = broken (λ (why : Unfinished). why ≡ unfinished.RunsEnd → c.search_all.new.progress.runs ≡ 0) c.search_all.result unfinished.RunsEnd
    (sym c.err-unfinished.ensures.value ∙ is) c.search_all.ensures.ends refl in
    omega (arith, spent)
