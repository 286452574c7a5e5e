-- The tables of what the classes declare.
use Rattle.std.proofs.Common.{sym, subst, ◌∙◌}
use Rattle.jm_linked.specs.Tables.{AreInitializers, HaveConstants}
use Rattle.jm_linker.proofs.tables.own_tables.Goals as goal

pub returns : goal.returns
returns c = record {
  codes = c.new.ensures ∙ c.in_ok-codes.ensures;
  initializers = subst (AreInitializers c.args.classes.now.program.now) (sym c.new-2.ensures) c.in_ok-initializers.ensures;
  constants = subst (HaveConstants c.args.classes.now.program.now) (sym c.new-3.ensures) c.in_ok-constants.ensures;
}
