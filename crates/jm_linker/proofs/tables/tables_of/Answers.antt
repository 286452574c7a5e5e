-- The classes that were gathered are those of the program, and are ordered.
use Rattle.std.proofs.Common.{List, length, sym, ap, subst, ◌∙◌}
use Rattle.jm_tables.specs.Inheriting.{IsOrder}
use Rattle.jm_tables.specs.declared.inheritance.Declared.{Declared}
use Rattle.jm_world.specs.Classes.{height}
use Rattle.jm_linker.specs.Inherited.{AreClasses}
use Rattle.jm_linker.specs.Orders.{CanBeOrdered}
use Rattle.jm_linker.proofs.OrderLaws.{can_be_ordered}
use Rattle.jm_linker.proofs.tables.tables_of.Goals as goal

pub declarations_of-requires-clause-count : goal.declarations_of-requires-clause-count
declarations_of-requires-clause-count c = c.in-Ok.ensures.1 ∙ c.height.ensures

pub order_of-requires-clause-count : goal.order_of-requires-clause-count
order_of-requires-clause-count c = c.in-Ok.ensures.1 ∙ c.height.ensures ∙ sym c.in_ok-declarations.ensures.length ∙ sym (ap length c.deref.ensures.value)

pub order_of-requires-clause-ordered : goal.order_of-requires-clause-ordered
order_of-requires-clause-ordered c =
    subst CanBeOrdered (sym c.deref.ensures.value)
    (can_be_ordered c.args.classes.now.program.now c.requires c.in_ok-declarations.declarations.items c.in_ok-declarations.ensures)

pub tables_in-requires-clause-declarations : goal.tables_in-requires-clause-declarations
tables_in-requires-clause-declarations c =
    let program = c.args.classes.now.program.now in
    subst (AreClasses program (height program)) (sym c.deref-3.ensures.value) c.in_ok-declarations.ensures

pub tables_in-requires-clause-order : goal.tables_in-requires-clause-order
tables_in-requires-clause-order c =
    subst (IsOrder c.deref-3.result.now) (sym c.deref-4.ensures.value)
    (subst (λ (declarations : List Declared). IsOrder declarations c.in_ok-order.order.items) (c.deref.ensures.value ∙ sym c.deref-3.ensures.value) c.in_ok-order.ensures)
