-- The three classes by their numbers.
use Rattle.std.proofs.Common.{ap, subst, sym, ◌∙◌}
use Rattle.jm_world.specs.Hierarchy.{is_above_arrays}
use Rattle.jm_linked.specs.Links.{NamesElement}
use Rattle.jm_linked.proofs.HeldTypes.{above_arrays}
use Rattle.jm_linked.proofs.assignability.is_above_arrays.Goals as goal

pub returns-in-Class : goal.returns-in-Class
returns-in-Class c = λ program t loads named.
    let class = subst (λ e. NamesElement program e t) c.in-Class.is named in
    c.is_one_above_arrays.ensures ∙ above_arrays program loads c.in-Class.class class.0 class.2 ∙ ap is_above_arrays (sym class.1)
