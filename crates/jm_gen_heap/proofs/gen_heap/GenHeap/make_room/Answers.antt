use Rattle.std.proofs.Common.{◌≡◌, ◌<◌, ◌+◌, ◌∙◌, true, false, sym, ap, subst}
use Rattle.std.proofs.lemmas.Bool.{leb-true, le-leb}
use Rattle.jm_values.specs.Content.{AllResident, Kept, used_by}
use Rattle.jm_heap.specs.Cells.{class_size}
use Rattle.jm_heap.specs.Collection.{IsAsBefore}
use Rattle.jm_gen_heap.specs.Generations.{all_cells}
use Rattle.jm_gen_heap.specs.Residents.{content_of}
use Rattle.jm_gen_heap.specs.Allocating.{OldStay}
use Rattle.jm_gen_heap.proofs.Allocating.{minor_left, minor_stays, minor_fits, same_left, full_passes}
use Rattle.jm_gen_heap.proofs.gen_heap.GenHeap.make_room.Goals as goal

pub collect_young-requires : goal.collect_young-requires
collect_young-requires g c = subst (λ x. AllResident (content_of x) c.args.roots.now) (sym c.self.view_is) c.requires

pub collect_all-requires : goal.collect_all-requires
collect_all-requires g c = subst (λ x. AllResident (content_of x) c.args.roots.now) (sym c.self.view_is) c.requires

pub returns-in_err-collect_young-clause-kept : goal.returns-in_err-collect_young-clause-kept
returns-in_err-collect_young-clause-kept g c =
    let left = same_left c.self.inside.generations c.collect_young.new.self c.args.roots.now c.collect_young.new.roots c.fits.ensures.keeps (subst (λ x. AllResident (content_of x) c.args.roots.now) (sym c.self.view_is) c.requires) c.in_err-collect_young.ensures.same c.in_err-collect_young.ensures.roots in
    subst (λ x. Kept (content_of x) c.args.roots.now (content_of c.collect_young.new.self) c.collect_young.new.roots) c.self.view_is left.kept

pub returns-in_err-collect_all-clause-kept : goal.returns-in_err-collect_all-clause-kept
returns-in_err-collect_all-clause-kept g c =
    let left = same_left c.self.inside.generations c.collect_all.new.self c.args.roots.now c.collect_all.new.roots c.fits.ensures.keeps (subst (λ x. AllResident (content_of x) c.args.roots.now) (sym c.self.view_is) c.requires) (ap content_of c.in_err-collect_all.ensures.same) c.in_err-collect_all.ensures.roots in
    subst (λ x. Kept (content_of x) c.args.roots.now (content_of c.collect_all.new.self) c.collect_all.new.roots) c.self.view_is left.kept

pub returns-then-fits-clause-kept : goal.returns-then-fits-clause-kept
returns-then-fits-clause-kept g c =
    let left = minor_left c.in_ok-collect_young.ensures.ok in
    subst (λ x. Kept (content_of x) c.args.roots.now (content_of c.collect_young.new.self) c.collect_young.new.roots) c.self.view_is left.kept

pub returns-then-fits-clause-next : goal.returns-then-fits-clause-next
returns-then-fits-clause-next g c =
    let left = minor_left c.in_ok-collect_young.ensures.ok in
    left.next ∙ ap (λ x. (content_of x).next) c.self.view_is

pub returns-then-fits-clause-as_before : goal.returns-then-fits-clause-as_before
returns-then-fits-clause-as_before g c =
    let left = minor_left c.in_ok-collect_young.ensures.ok in
    subst (λ x. IsAsBefore (content_of x) (content_of c.collect_young.new.self)) c.self.view_is left.as_before

pub returns-then-fits-clause-stays : goal.returns-then-fits-clause-stays
returns-then-fits-clause-stays g c =
    let stays = minor_stays c.in_ok-collect_young.ensures.ok c.args.cells in
    subst (λ x. OldStay x c.collect_young.new.self c.args.cells) c.self.view_is stays

pub returns-then-fits-clause-ok : goal.returns-then-fits-clause-ok
returns-then-fits-clause-ok g c =
    let gen = c.self.inside.generations in
    let fits = leb-true (all_cells gen + c.args.cells) gen.limit (sym c.fits.ensures.value ∙ c.if-fits.true) in
    minor_fits c.fits.ensures.keeps c.in_ok-collect_young.ensures.keeps c.in_ok-collect_young.ensures.ok c.args.cells fits

pub returns-clause-err : goal.returns-clause-err
returns-clause-err g c =
    let gen = c.self.inside.generations in
    let h = c.collect_all.new.self in
    let passes = full_passes c.in_ok-collect_all.ensures.ok c.args.cells (λ fits. let both : true ≡ false = sym (le-leb (all_cells h + c.args.cells) h.limit fits) ∙ sym c.fits-2.ensures.value ∙ c.if-fits-2.false in cc) in
    subst (λ x. (content_of x).limit < used_by class_size (content_of x) c.args.roots.now + c.args.cells) c.self.view_is passes
