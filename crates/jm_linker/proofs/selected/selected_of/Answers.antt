-- The table of what was gathered.
use Rattle.std.proofs.Common.{ℕ, ◌<◌, List, length, sym, subst, ◌∙◌}
use Rattle.std.specs.Prelude.{IfSome}
use Rattle.std.specs.List.{All}
use Rattle.jm_world.specs.Resolution.{select}
use Rattle.jm_tables.specs.Inheriting.{IsOrder}
use Rattle.jm_tables.specs.Tables.{IsCellOf, row_at}
use Rattle.jm_tables.specs.MethodTables.{IsNumberOf}
use Rattle.jm_tables.specs.Numbering.{name_of}
use Rattle.jm_tables.specs.declared.inheritance.Declared.{Declared}
use Rattle.jm_linked.specs.Methods.{all_methods}
use Rattle.jm_linked.specs.Tables.{all_names}
use Rattle.jm_linker.specs.Selectors.{AreTheirMethods}
use Rattle.jm_linker.proofs.AboveLaws.{not_none}
use Rattle.jm_linker.proofs.SelectedLaws.{are_methods, method_cells, selector_within}
use Rattle.jm_linker.proofs.SuperOrders.{methods_order}
use Rattle.jm_linker.proofs.selected.selected_of.Goals as goal

pub of-requires : goal.of-requires
of-requires c =
    let program = c.args.classes.now.program.now in
    let declarations = c.args.declarations.now in
    let many = c.in-Ok.ensures.1 ∙ c.method_count.ensures in
    subst (λ n. All (λ (d : Declared). All (IsCellOf n) d.own.items) c.deref.result.now) (sym many)
    (method_cells program declarations (length declarations) c.deref.result.now
    (subst (AreTheirMethods program declarations (length declarations)) (sym c.deref.ensures.value) c.in_ok-methods.ensures))

pub unreachable-requires : goal.unreachable-requires
unreachable-requires c =
    let order = methods_order c.args.classes.now.program.now c.args.declarations.now c.in_ok-methods.methods.items c.args.order.now c.in_ok-methods.ensures c.requires.order in
    not_none _ (c.in_ok-selected.ensures.made (subst (λ (ds : List Declared). IsOrder ds c.args.order.now) (sym c.deref.ensures.value) order)) c.in_default-2.is

pub returns : goal.returns
returns c = λ name t selector class e within.
    let program = c.args.classes.now.program.now in
    let names = all_names program in
    let declarations = c.args.declarations.now in
    let many = c.in-Ok.ensures.1 ∙ c.method_count.ensures in
    let gathered = subst (AreTheirMethods program declarations (length declarations)) (sym c.deref.ensures.value) c.in_ok-methods.ensures in
    let bound = subst (λ n. selector < n) (sym many) (selector_within program name t selector e) in
    subst (λ o. IfSome o (λ table. (k : ℕ) → k < length names → IsNumberOf (all_methods program) (row_at table k selector) (select program (name_of names k) name t)))
    c.in-Some.is
    (c.in_ok-selected.ensures.selected program names (all_methods program) selector name t bound
    (are_methods program declarations c.deref.result.now c.requires.loads c.requires.declarations gathered name t selector e)) class within
