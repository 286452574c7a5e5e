use Rattle.std.proofs.Common.{◌∷◌, [], ap, sym, ◌∙◌, arith}
use Rattle.jm_heap.specs.Elements.{elements, element_kind}
use Rattle.jm_blocks.specs.Objects.{object_of}
use Rattle.jm_values.proofs.Lists.{get_there}
use Rattle.jm_par_copy.proofs.Alone.{only_one}
use Rattle.jm_par_copy.proofs.large.large_array.Goals as goal

pub object_at-requires : goal.object_at-requires
object_at-requires c = get_there c.args.piece.now.block 0 (omega (arith, c.len.ensures.value, c.if-len-ne1.false))

pub returns-else-references-lt-LARGE : goal.returns-else-references-lt-LARGE
returns-else-references-lt-LARGE c =
    let e = c.object_at.ensures in
    let header = c.object_at.result.0 in
    let array = only_one c.args.piece.now.block (object_of header (elements c.object_at.result.1)) (omega (arith, c.len.ensures.value, c.if-len-ne1.false)) e.value in
    (header, array ∙ ap (λ x. object_of header (elements x) ∷ []) c.in-References.is, omega (arith, c.if-piece-ne0.false), ap element_kind (sym c.in-References.is) ∙ e.kind)
