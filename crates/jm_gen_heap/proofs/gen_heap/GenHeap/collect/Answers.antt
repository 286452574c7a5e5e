use Rattle.std.proofs.Common.{◌∙◌, sym, ap, subst}
use Rattle.jm_values.specs.Content.{AllResident, Kept}
use Rattle.jm_heap.specs.Collection.{IsAsBefore}
use Rattle.jm_gen_heap.specs.Residents.{content_of}
use Rattle.jm_gen_heap.proofs.Allocating.{minor_tried, full_tried}
use Rattle.jm_gen_heap.proofs.gen_heap.GenHeap.collect.Goals as goal

pub collect_young-requires : goal.collect_young-requires
collect_young-requires g c = subst (λ x. AllResident (content_of x) c.args.roots.now) (sym c.self.view_is) c.requires

pub collect_all-requires : goal.collect_all-requires
collect_all-requires g c = subst (λ x. AllResident (content_of x) c.args.roots.now) (sym c.self.view_is) c.requires

pub returns-in-Minor-clause-kept : goal.returns-in-Minor-clause-kept
returns-in-Minor-clause-kept g c =
    let gen = c.self.inside.generations in
    let r = subst (λ x. AllResident (content_of x) c.args.roots.now) (sym c.self.view_is) c.requires in
    let left = minor_tried c.collect_young.result gen c.collect_young.new.self c.args.roots.now c.collect_young.new.roots c.used-cells.ensures.keeps r c.collect_young.ensures.ok c.collect_young.ensures.same c.collect_young.ensures.roots in
    subst (λ x. Kept (content_of x) c.args.roots.now (content_of c.collect_young.new.self) c.collect_young.new.roots) c.self.view_is left.kept

pub returns-in-Minor-clause-next : goal.returns-in-Minor-clause-next
returns-in-Minor-clause-next g c =
    let gen = c.self.inside.generations in
    let r = subst (λ x. AllResident (content_of x) c.args.roots.now) (sym c.self.view_is) c.requires in
    let left = minor_tried c.collect_young.result gen c.collect_young.new.self c.args.roots.now c.collect_young.new.roots c.used-cells.ensures.keeps r c.collect_young.ensures.ok c.collect_young.ensures.same c.collect_young.ensures.roots in
    left.next ∙ ap (λ x. (content_of x).next) c.self.view_is

pub returns-in-Minor-clause-as_before : goal.returns-in-Minor-clause-as_before
returns-in-Minor-clause-as_before g c =
    let gen = c.self.inside.generations in
    let r = subst (λ x. AllResident (content_of x) c.args.roots.now) (sym c.self.view_is) c.requires in
    let left = minor_tried c.collect_young.result gen c.collect_young.new.self c.args.roots.now c.collect_young.new.roots c.used-cells.ensures.keeps r c.collect_young.ensures.ok c.collect_young.ensures.same c.collect_young.ensures.roots in
    subst (λ x. IsAsBefore (content_of x) (content_of c.collect_young.new.self)) c.self.view_is left.as_before

pub returns-in-Full-clause-kept : goal.returns-in-Full-clause-kept
returns-in-Full-clause-kept g c =
    let gen = c.self.inside.generations in
    let r = subst (λ x. AllResident (content_of x) c.args.roots.now) (sym c.self.view_is) c.requires in
    let left = full_tried c.collect_all.result gen c.collect_all.new.self c.args.roots.now c.collect_all.new.roots c.used-cells.ensures.keeps r c.collect_all.ensures.ok c.collect_all.ensures.same c.collect_all.ensures.roots in
    subst (λ x. Kept (content_of x) c.args.roots.now (content_of c.collect_all.new.self) c.collect_all.new.roots) c.self.view_is left.kept
