use Rattle.std.proofs.Common.{refl, inl, subst, sym}
use Rattle.jm_values.specs.Rename.{refs}
use Rattle.jm_values.specs.Shape.{Among}
use Rattle.jm_heap.proofs.mark.mark_value.Goals as goal

pub mark_place-requires : goal.mark_place-requires
mark_place-requires c = c.requires c.in-Ref.place (subst (λ v. Among c.in-Ref.place (refs v)) (sym c.in-Ref.is) (inl refl))
