use Rattle.std.proofs.Common.{◌≡◌, refl, ap, subst, ◌∙◌}
use Rattle.std.specs.Prelude.{nat_eq}
use Rattle.std.proofs.lemmas.Option.{slice_get_within}
use Rattle.jm_values.specs.declared.value.Value.TheVariants.{Ref}
use Rattle.jm_heap.specs.Packing.{Fits, kind_of}
use Rattle.jm_blocks.specs.Places.{lane_of}
use Rattle.jm_copy.proofs.Making.{extends_more, extends_set}
use Rattle.jm_copy.proofs.Keeping.{set_copying, named_reached}
use Rattle.jm_copy.proofs.forward.forward_named.Goals as goal

pub forward-requires-clause-reached : goal.forward-requires-clause-reached
forward-requires-clause-reached c o e =
    let a = c.requires.there in
    named_reached c.args.from.stores.now c.args.from.roots.now c.args.to.now c.requires.copying.0 c.args.place c.args.number c.args.named a.0 o c.requires.copying.1 a.1 a.2 e

pub set-requires-clause-fits : goal.set-requires-clause-fits
set-requires-clause-fits c o e =
    let a = c.requires.there in
    let still = c.in_ok-copy.ensures.keeps c.args.place a.0 a.1 in
    let same : a.0 ≡ o = cc in
    subst (λ x. Fits (kind_of x.class) (Ref c.in_ok-copy.copy)) same (a.3 c.in_ok-copy.copy)

pub set-requires-clause-there : goal.set-requires-clause-there
set-requires-clause-there c = let a = c.requires.there in (a.0, c.in_ok-copy.ensures.keeps c.args.place a.0 a.1, slice_get_within a.0.values c.args.number (Ref c.args.named) a.2)

pub returns-clause-copying : goal.returns-clause-copying
returns-clause-copying c done i =
    let a = c.requires.there in
    let still = c.in_ok-copy.ensures.keeps c.args.place a.0 a.1 in
    set_copying c.args.from.stores.now c.args.from.roots.now c.forward.new.to c.set.new.self done c.args.place c.args.number a.0 (Ref c.args.named) (Ref c.in_ok-copy.copy) (c.in_ok-copy.ensures.copying _ i) still a.2 (c.in_ok-copy.copy, refl, c.in_ok-copy.ensures.forwarded) (c.set.ensures.set a.0 still) c.set.ensures.stays c.set.ensures.words

pub returns-clause-names : goal.returns-clause-names
returns-clause-names c a e =
    let still = c.in_ok-copy.ensures.keeps c.args.place a e in
    (Ref c.in_ok-copy.copy, (c.set.ensures.set a still).here, c.is_young.ensures ∙ ap (nat_eq (lane_of c.in_ok-copy.copy)) (c.set.ensures.stays.young_lane ∙ c.forward.ensures.extends.stays.young_lane))

pub returns-clause-passed : goal.returns-clause-passed
returns-clause-passed c m n h below apart = c.set.ensures.others n apart ∙ c.in_ok-copy.ensures.passed m n h below

pub returns-clause-extends : goal.returns-clause-extends
returns-clause-extends c = extends_more c.args.from.stores.now c.args.to.now c.forward.new.to c.set.new.self c.forward.ensures.extends (extends_set c.args.from.stores.now c.forward.new.to c.set.new.self c.set.ensures.stays c.set.ensures.words)
