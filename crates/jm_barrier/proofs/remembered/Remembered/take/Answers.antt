use Rattle.std.proofs.Common.{◌≡◌, [], ◌∙◌, ap, sym, subst}
use Rattle.jm_barrier.specs.Marks.{IsRemembered, AreUnmarked}
use Rattle.jm_barrier.proofs.Membership.{remembered_none}
use Rattle.jm_barrier.proofs.remembered.Remembered.take.Goals as goal

pub invariant_of-self : goal.invariant_of-self
invariant_of-self c =
    let taken = c.as_slice.ensures.value ∙ ap (λ v. v.items) c.replace-taken.ensures.value in
    let none : c.replace-taken.new.dest.items ≡ [] = ap (λ v. v.items) c.replace-taken.ensures.after ∙ c.new.ensures.items in
    let bare = remembered_none c.self.inside.lanes.items c.unmark_all.new.lanes.items c.self.inside.places.items c.self.invariant (subst (λ ps. AreUnmarked c.self.inside.lanes.items c.unmark_all.new.lanes.items ps) taken c.unmark_all.ensures) in
    subst (λ ps. IsRemembered c.unmark_all.new.lanes.items ps) (sym none) bare
