-- The linked program of the parts.
use Rattle.std.proofs.Common.{sym, ap, subst, ◌∙◌}
use Rattle.jm_world.specs.Loads.{refusal}
use Rattle.jm_linked.specs.Links.{IsLinked}
use Rattle.jm_linker.specs.LinkedMethods.{NumbersMain}
use Rattle.jm_linker.proofs.MainLaws.{is_linked}
use Rattle.jm_linker.proofs.Reasons.{has_main}
use Rattle.jm_linker.proofs.linking.with_main.Goals as goal

pub main_among_coded-requires : goal.main_among_coded-requires
main_among_coded-requires c = has_main c.deref.result.now (ap refusal c.deref.ensures.value ∙ c.requires.loads)

pub new-requires-in-Ok-3-clause-linked : goal.new-requires-in-Ok-3-clause-linked
new-requires-in-Ok-3-clause-linked c =
    let main = subst (λ p. NumbersMain p c.in-Ok.main) c.deref.ensures.value c.in-Ok.ensures in
    subst IsLinked (λ j. record { program = sym c.new.ensures j; methods = sym c.new-in-Ok.ensures j; literals = sym c.new-in-Ok-2.ensures j; tables = c.args.parts.tables; main = c.in-Ok.main })
    (is_linked c.args.classes.items c.args.parts.methods.items c.args.parts.literals.items c.args.parts.tables c.in-Ok.main c.requires.loads
    c.requires.places c.requires.linked c.requires.literals c.requires.tables main)
