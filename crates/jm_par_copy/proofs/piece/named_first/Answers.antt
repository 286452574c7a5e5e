use Rattle.std.proofs.Common.{◌≡◌, ◌∙◌, Some, sym, subst}
use Rattle.jm_heap.specs.Elements.{elements}
use Rattle.jm_values.proofs.Lists.{get_there}
use Rattle.jm_blocks.specs.Objects.{object_of}
use Rattle.jm_copy.specs.Naming.{NamesFirst, NamesNext}
use Rattle.jm_par_copy.proofs.piece.named_first.Goals as goal

pub object_at-requires : goal.object_at-requires
object_at-requires c = get_there c.args.block.now c.args.index c.requires

pub returns : goal.returns
returns c a e =
    let both : Some a ≡ Some (object_of c.object_at.result.0 (elements c.object_at.result.1)) = sym e ∙ c.object_at.ensures.value in
    let same : a ≡ object_of c.object_at.result.0 (elements c.object_at.result.1) = cc in
    subst (λ x. NamesNext x 0 c.first_named.result) (sym same) (subst (λ k. NamesFirst (elements c.object_at.result.1) k 0 c.first_named.result) c.object_at.ensures.kind c.first_named.ensures)
