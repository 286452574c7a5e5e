use Rattle.std.proofs.Common.{◌≡◌, List, ◌∙◌, arith, sym, ap, subst}
use Rattle.jm_program.proofs.Sequences.{put_back}
use Rattle.jm_blocks.specs.Stores.{Blocks}
use Rattle.jm_par_copy.specs.Ending.{AllLoads, IsLoaded, seats_in, stocks}
use Rattle.jm_par_copy.specs.declared.copier.Copier.{Copier}
use Rattle.jm_par_copy.proofs.Crew.{same_many}
use Rattle.jm_par_copy.proofs.Loads.{loaded_alone, none_stored}
use Rattle.jm_par_copy.proofs.Strides.{opened_empty}
use Rattle.jm_par_copy.proofs.unloading.put_together.Goals as goal

pub unload_all-requires-clause-loads : goal.unload_all-requires-clause-loads
unload_all-requires-clause-loads c =
    let young = ap (λ (s : Blocks). s.lane) c.new-young.ensures in
    let old = ap (λ (s : Blocks). s.lane) c.in_ok-promoted.ensures in
    subst (λ (xs : List Copier). AllLoads c.new-young.result.lane c.in_ok-promoted.promoted.lane xs c.args.aside.items) (sym c.as_mut_slice.ensures.value)
    (subst (λ l. AllLoads l c.in_ok-promoted.promoted.lane c.args.copiers.now.items c.args.aside.items) (sym young)
    (subst (λ l. AllLoads 1 l c.args.copiers.now.items c.args.aside.items) (sym old) c.requires.loads))

pub unload_all-requires-clause-beside : goal.unload_all-requires-clause-beside
unload_all-requires-clause-beside c n a e = none_stored c.new-young.result c.in_ok-promoted.promoted n (opened_empty c.new-young.result 1 0 c.new-young.ensures) (opened_empty c.in_ok-promoted.promoted c.args.old_lane c.args.empty c.in_ok-promoted.ensures)

pub returns-clause-all : goal.returns-clause-all
returns-clause-all c =
    let a = c.unload_all.new.young in
    let b = c.unload_all.new.promoted in
    let loaded = subst (λ (xs : List Copier). IsLoaded (stocks xs c.args.aside.items) c.new-young.result c.in_ok-promoted.promoted a b) c.as_mut_slice.ensures.value c.in_ok-unload_all.ensures.loaded in
    loaded_alone (stocks c.args.copiers.now.items c.args.aside.items) c.new-young.result c.in_ok-promoted.promoted a b (opened_empty c.new-young.result 1 0 c.new-young.ensures) (opened_empty c.in_ok-promoted.promoted c.args.old_lane c.args.empty c.in_ok-promoted.ensures) loaded

pub returns-clause-seats : goal.returns-clause-seats
returns-clause-seats c =
    let cs = c.args.copiers.now.items in
    let ds = c.unload_all.new.copiers in
    let seats : seats_in ds ≡ seats_in cs = c.unload_all.ensures.seats ∙ ap seats_in c.as_mut_slice.ensures.value in
    let many = same_many cs ds seats in
    let len = c.args.copiers.now.ok.0 in
    ap seats_in (put_back cs ds c.args.copiers.now.len (omega (arith, many, len))) ∙ seats

pub returns-in_err-unload_all-clause-seats : goal.returns-in_err-unload_all-clause-seats
returns-in_err-unload_all-clause-seats c =
    let cs = c.args.copiers.now.items in
    let ds = c.unload_all.new.copiers in
    let seats : seats_in ds ≡ seats_in cs = c.unload_all.ensures.seats ∙ ap seats_in c.as_mut_slice.ensures.value in
    let many = same_many cs ds seats in
    let len = c.args.copiers.now.ok.0 in
    ap seats_in (put_back cs ds c.args.copiers.now.len (omega (arith, many, len))) ∙ seats
