-- The tables of fields that were gathered.
use Rattle.std.proofs.Common.{List, ap, sym, subst, ◌∙◌}
use Rattle.std.specs.Prelude.{IfSome, map}
use Rattle.jm_tables.specs.Extents.{IsTopDown}
use Rattle.jm_tables.specs.FieldKinds.{AreKinds}
use Rattle.jm_tables.specs.Layouts.{AreFields, IsLayout}
use Rattle.jm_tables.specs.declared.extent.DeclaredFields.{DeclaredFields}
use Rattle.jm_linked.specs.Tables.{AreSuperclasses, all_names}
use Rattle.jm_linker.proofs.AboveLaws.{not_none}
use Rattle.jm_linker.proofs.InheritedLaws.{are_fields, are_superclasses}
use Rattle.jm_linker.proofs.SuperOrders.{fields_order}
use Rattle.jm_linker.proofs.tables.field_tables.Goals as goal

pub unreachable-requires : goal.unreachable-requires
unreachable-requires c =
    let order = fields_order c.args.classes.now.program.now c.args.declarations.now c.in_ok-fields.fields.items c.args.order.now c.in_ok-fields.ensures c.requires.order in
    not_none _ (c.in_ok-layout.ensures.made (subst (λ (ds : List DeclaredFields). IsTopDown ds c.args.order.now) (sym c.deref.ensures.value) order)) c.in_default.is

pub unreachable-requires-in_default-2 : goal.unreachable-requires-in_default-2
unreachable-requires-in_default-2 c =
    let order = fields_order c.args.classes.now.program.now c.args.declarations.now c.in_ok-fields.fields.items c.args.order.now c.in_ok-fields.ensures c.requires.order in
    not_none _ (c.in_ok-kinds.ensures.made (subst (λ (ds : List DeclaredFields). IsTopDown ds c.args.order.now) (sym c.deref-2.ensures.value) order)) c.in_default-2.is

pub returns : goal.returns
returns c =
    let program = c.args.classes.now.program.now in
    let names = all_names program in
    let fields = c.in_ok-fields.fields.items in
    let declared : AreFields program names fields = are_fields program c.args.declarations.now fields c.requires.loads c.requires.declarations c.in_ok-fields.ensures in
    record {
      layout = subst (λ o. IfSome o (λ layout. IsLayout program names layout))
          c.in-Some.is (c.in_ok-layout.ensures.laid_out program names (subst (AreFields program names) (sym c.deref.ensures.value) declared));
      kinds = subst (λ o. IfSome o (λ kinds. AreKinds program names kinds))
          c.in-Some-2.is (c.in_ok-kinds.ensures.kinds program names (subst (AreFields program names) (sym c.deref-2.ensures.value) declared));
      superclasses = subst (AreSuperclasses program) (sym (c.new-superclasses.ensures ∙ c.in_ok-superclasses_in.ensures
          ∙ ap (map (λ (d : DeclaredFields). d.superclass)) c.deref-3.ensures.value)) (are_superclasses program fields declared);
    }
