use Rattle.std.proofs.Common.{◌≡◌, ◌-◌, Option, Some, None, refl, sym, subst, arith, length, ◌∙◌}
use Rattle.std.specs.Prelude.{MatchOption, slice_get}
use Rattle.std.proofs.lemmas.Option.{slice_get_read}
use Rattle.jm_blocks.specs.Objects.{Object}
use Rattle.jm_copy.proofs.Numbering.{none_below, none_past, store_read}
use Rattle.jm_copy.proofs.source.find.Goals as goal

pub returns-then-lane-eq0 : goal.returns-then-lane-eq0
returns-then-lane-eq0 c = none_below c.args.stores.now c.args.place c.requires (sym c.of-lane.ensures.lane ∙ c.if-lane-eq0.true)

pub returns-then-lane-stores : goal.returns-then-lane-stores
returns-then-lane-stores c = none_past c.args.stores.now c.args.place (omega (arith, c.of-lane.ensures.lane, c.if-lane-stores.true))

pub returns : goal.returns
returns c =
    let family : Option Object → Type 0 = λ x. MatchOption c.find_here.result (x ≡ None) (λ r. (o : Object) × (x ≡ Some o) × (slice_get r.0.now r.1 ≡ Some o)) in
    subst family (sym (store_read c.args.stores.now c.args.place c.of-lane.result.lane c.index-stores-lane.result c.of-lane.ensures.lane c.if-lane-eq0.false c.if-lane-stores.false c.index-stores-lane.is)) c.find_here.ensures

pub find_here-requires : goal.find_here-requires
find_here-requires c =
    let at = slice_get_read c.args.stores.now (length c.args.stores.now) (c.of-lane.result.lane - 1) c.index-stores-lane.result refl (omega (arith, c.if-lane-eq0.false, c.if-lane-stores.false)) c.index-stores-lane.is in
    omega (arith, c.requires.numbered (c.of-lane.result.lane - 1) c.index-stores-lane.result at, c.of-lane.ensures.lane, c.if-lane-eq0.false)
