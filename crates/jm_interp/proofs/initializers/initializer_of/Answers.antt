use Rattle.std.proofs.Common.{ap, ◌∙◌}
use Rattle.jm_linked.specs.declared.tables.Tables.{Tables}
use Rattle.jm_interp.proofs.ClassInitializers.{initializer_there, some_there}
use Rattle.jm_interp.proofs.initializers.initializer_of.Goals as goal

pub returns-in-Some : goal.returns-in-Some
returns-in-Some c parts at = initializer_there c.requires
    (c.as_slice.ensures ∙ ap (λ (t : Tables). t.initializers) c.tables.ensures) c.args.class c.get.ensures.lookup.3 at c.in-Some.is

pub returns-in-None : goal.returns-in-None
returns-in-None c parts at = absurd (some_there c.requires
    (c.as_slice.ensures ∙ ap (λ (t : Tables). t.initializers) c.tables.ensures) c.args.class c.get.ensures.lookup.3 at c.in-None.is)
