use Rattle.std.proofs.Common.{◌≡◌, ◌∙◌, Some, ap, sym, subst}
use Rattle.jm_heap.specs.Elements.{elements}
use Rattle.jm_blocks.specs.Objects.{object_of}
use Rattle.jm_blocks.specs.Stores.{objects_in}
use Rattle.jm_copy.specs.Naming.{NamesFirst, NamesNext}
use Rattle.jm_copy.proofs.Making.{store_has}
use Rattle.jm_copy.proofs.copies.Copies.named_first.Goals as goal

pub object_at-requires : goal.object_at-requires
object_at-requires c = (c.requires.0, ap (λ s. objects_in s c.args.place) c.store.ensures ∙ store_has c.args.self.now c.args.place c.requires.0 c.requires.1)

pub returns : goal.returns
returns c a e =
    let both : Some a ≡ Some (object_of c.object_at.result.0 (elements c.object_at.result.1)) = sym (store_has c.args.self.now c.args.place a e) ∙ ap (λ s. objects_in s c.args.place) (sym c.store.ensures) ∙ c.object_at.ensures.value in
    let same : a ≡ object_of c.object_at.result.0 (elements c.object_at.result.1) = cc in
    subst (λ x. NamesNext x 0 c.first_named.result) (sym same) (subst (λ k. NamesFirst (elements c.object_at.result.1) k 0 c.first_named.result) c.object_at.ensures.kind c.first_named.ensures)
