use Rattle.std.proofs.Common.{◌≡◌, ◌≢◌, ◌∷◌, [], List, ◌∙◌, rules, refl, sym, subst, length}
use Rattle.jm_par_copy.specs.Ending.{AllLoads, IsBeside, IsLoaded, stock, stocks}
use Rattle.jm_par_copy.specs.declared.copier.Copier.{Copier}
use Rattle.jm_par_copy.proofs.Loads.{alone_beside, alone_loaded, beside_first, rest_all_loads, rest_beside, rest_loaded}
use Rattle.jm_par_copy.proofs.Redealing.{none_left}
use Rattle.jm_par_copy.proofs.unloading.+unload_all.Goals as goal

pub put_pieces-requires-clause-beside : goal.put_pieces-requires-clause-beside
put_pieces-requires-clause-beside t c =
    let none : c.args.copiers.now ≡ [] = none_left c.args.copiers.now (length c.args.copiers.now) refl c.in_default.ensures.cases in
    alone_beside c.args.copiers.now c.args.aside.items c.args.young.now c.args.promoted.now none c.requires.beside

pub returns-in_default-clause-loaded : goal.returns-in_default-clause-loaded
returns-in_default-clause-loaded t c =
    let none : c.args.copiers.now ≡ [] = none_left c.args.copiers.now (length c.args.copiers.now) refl c.in_default.ensures.cases in
    alone_loaded c.args.copiers.now c.args.aside.items c.args.young.now c.args.promoted.now c.put_pieces.new.young c.put_pieces.new.promoted none c.in_ok-put_pieces.ensures

pub unload-requires-clause-beside : goal.unload-requires-clause-beside
unload-requires-clause-beside t c =
    let cs = c.in-Some.first.now ∷ c.in-Some.rest.now in
    let all : c.args.copiers.now ≡ cs = search rules in
    beside_first (stock c.in-Some.first.now) (stocks c.in-Some.rest.now c.args.aside.items) c.args.young.now c.args.promoted.now (subst (λ (xs : List Copier). IsBeside (stocks xs c.args.aside.items) c.args.young.now c.args.promoted.now) all c.requires.beside)

pub unload_all-requires : goal.unload_all-requires
unload_all-requires t c =
    let first = c.in-Some.first.now in
    let rest = c.in-Some.rest.now in
    let aside = c.args.aside.items in
    let young = c.args.young.now in
    let old = c.args.promoted.now in
    let young' = c.unload.new.young in
    let old' = c.unload.new.promoted in
    let all : c.args.copiers.now ≡ first ∷ rest = search rules in
    let loads = subst (λ (xs : List Copier). AllLoads young.lane old.lane xs aside) all c.requires.loads in
    let beside = subst (λ (xs : List Copier). IsBeside (stocks xs aside) young old) all c.requires.beside in
    let l = c.in_ok-unload.ensures.loaded in
    let lanes : young'.lane ≢ old'.lane = λ e. c.requires.lanes (sym l.young_lane ∙ e ∙ l.old_lane) in
    let next_loads = rest_all_loads first rest aside young old young' old' loads l in
    let next_beside = rest_beside first rest aside young old young' old' loads l beside in
    search (rules, lanes, next_loads, next_beside)

pub returns-clause-loaded : goal.returns-clause-loaded
returns-clause-loaded t c =
    let first = c.in-Some.first.now in
    let rest = c.in-Some.rest.now in
    let aside = c.args.aside.items in
    let young = c.args.young.now in
    let old = c.args.promoted.now in
    let young' = c.unload.new.young in
    let old' = c.unload.new.promoted in
    let all : c.args.copiers.now ≡ first ∷ rest = search rules in
    let loads = subst (λ (xs : List Copier). AllLoads young.lane old.lane xs aside) all c.requires.loads in
    let a = c.unload_all.new.young in
    let b = c.unload_all.new.promoted in
    subst (λ (xs : List Copier). IsLoaded (stocks xs aside) young old a b) (sym all) (rest_loaded first rest aside young old young' old' loads c.in_ok-unload.ensures.loaded a b c.in_ok-unload_all.ensures.loaded)
