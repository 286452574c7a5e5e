-- Each class in turn.
use Rattle.std.proofs.Common.{◌≡◌, ◌∙◌, [], ◌++◌, ◌<◌, ◌≤◌, ℕ, List, Option, Some, None}
use Rattle.std.proofs.Common.{get_or, length, length-set, map, refl, replicate, slice_get, sym, ap, subst, arith, rules}
use Rattle.std.specs.Prelude.{IsSome, IfSome}
use Rattle.std.proofs.lemmas.List.{length-map, length-replicate}
use Rattle.std.proofs.lemmas.Option.{slice_get-get_or, slice_get_within, IfSome_then}
use Rattle.jm_program.specs.declared.instruction.operation.OperandType.{OperandType}
use Rattle.jm_tables.specs.declared.extent.DeclaredFields.{DeclaredFields}
use Rattle.jm_tables.specs.declared.field_kinds.KindRow.{KindRow}
use Rattle.jm_tables.specs.Inheriting.{StandsBefore}
use Rattle.jm_tables.specs.FieldKinds.{HasKinds, own_kinds, row_above}
use Rattle.jm_tables.proofs.ExtentLaws.{known_more}
use Rattle.jm_tables.proofs.KindRowLaws.{no_kinds}
use Rattle.jm_tables.proofs.KindLaws.{AreKindRows, above_has, above_is_known, are_kinds, kinds_above, none_known, rows_later, rows_more}
use Rattle.jm_tables.proofs.PlacingLaws.{got, same_some}
use Rattle.jm_tables.proofs.field_kinds.FieldKinds.of.Goals as goal

pub loop-class-init : goal.loop-class-init
loop-class-init c =
    let none : c.in_ok-rows.rows.items ≡ replicate (length c.args.classes.now) None = c.in_ok-rows.ensures.items_if_clones_equal (search rules) in
    record {
      long = ap length none ∙ length-replicate (length c.args.classes.now) None;
      first = c.in_ok-lists.ensures;
      own = subst (AreKindRows 0 c.args.classes.now c.in_ok-lists.lists.items) (sym none)
          (none_known c.args.classes.now c.in_ok-lists.lists.items (length c.args.classes.now));
      placed = λ class before. let none = before.1 in absurd (omega (arith, none));
    }

pub row_over-requires : goal.row_over-requires
row_over-requires c =
    let above : row_above c.loop-class.rows.items c.in-Some.declared.now.superclass ≡ Some c.in-Some-above_in.above =
    ap (λ (rows : List (Option KindRow)). row_above rows c.in-Some.declared.now.superclass) (sym c.deref.ensures.value) ∙ sym c.above_in.ensures
    ∙ c.in-Some-above_in.is in (
      kinds_above c.loop-class.class-index c.args.classes.now c.in-Some.declared.now.superclass,
      above_has c.loop-class.class-index c.args.classes.now c.loop-class.lists.items c.loop-class.rows.items c.in-Some.declared.now.superclass
          c.in-Some-above_in.above c.loop-class.invariant.first c.loop-class.invariant.own above c.loop-class.class-index (omega arith),
    )

pub loop-class-preserved : goal.loop-class-preserved
loop-class-preserved c =
    let class : ℕ = get_or c.args.order.now c.loop-class.class-index 0 in
    let is : slice_get c.args.classes.now class ≡ Some c.in-Some.declared.now = got c.args.classes.now class c.in-Some.declared.now
    c.in-Some.ensures.lookup.3.0 c.in-Some.ensures.lookup.3.1 in
    let within : class < length c.loop-class.rows.items = omega (
      arith,
      c.loop-class.invariant.long,
      slice_get_within c.args.classes.now class c.in-Some.declared.now is,
    ) in
    let above : row_above c.loop-class.rows.items c.in-Some.declared.now.superclass ≡ Some c.in-Some-above_in.above =
    ap (λ (rows : List (Option KindRow)). row_above rows c.in-Some.declared.now.superclass) (sym c.deref.ensures.value) ∙ sym c.above_in.ensures
    ∙ c.in-Some-above_in.is in
    let own : c.deref-in-loop-class.result.now ≡ own_kinds c.in-Some.declared.now.fields.now =
    c.deref-in-loop-class.ensures.value ∙ c.in_ok-own.ensures in
    record {
      long = length-set c.loop-class.rows.items class (Some c.in_ok-row.row) ∙ c.loop-class.invariant.long;
      first = c.in_ok-row.ensures.kept no_kinds [] c.loop-class.invariant.first;
      own = rows_more c.loop-class.class-index c.args.classes.now c.loop-class.lists.items c.row_over.new.lists.items c.loop-class.rows.items class
          c.in-Some.declared.now c.in_ok-row.row c.loop-class.invariant.long c.loop-class.invariant.own c.in_ok-row.ensures.kept is
          (λ n l. subst (λ (ks : List OperandType). HasKinds c.row_over.new.lists.items c.in_ok-row.row
          (kinds_above n c.args.classes.now c.in-Some.declared.now.superclass ++ ks)) own
          (c.in_ok-row.ensures.over (kinds_above n c.args.classes.now c.in-Some.declared.now.superclass)
          (above_has c.loop-class.class-index c.args.classes.now c.loop-class.lists.items c.loop-class.rows.items c.in-Some.declared.now.superclass
          c.in-Some-above_in.above c.loop-class.invariant.first c.loop-class.invariant.own above n l)));
      placed = known_more c.args.order.now c.loop-class.rows.items c.loop-class.class-index class c.in_ok-row.row within refl
          c.loop-class.invariant.placed;
    }

pub returns-in_default-clause-made : goal.returns-in_default-clause-made
returns-in_default-clause-made c = λ order.
    let class : ℕ = get_or c.args.order.now c.loop-class.class-index 0 in
    let after = order.after c.loop-class.class-index class (slice_get-get_or c.args.order.now c.loop-class.class-index 0 c.loop-class-test.true) in
    let past = c.in_default.ensures.lookup.3 in absurd (omega (arith, past, slice_get_within c.args.classes.now class after.0 after.1))

pub returns-in_default-above_in-clause-made : goal.returns-in_default-above_in-clause-made
returns-in_default-above_in-clause-made c = λ order.
    let class : ℕ = get_or c.args.order.now c.loop-class.class-index 0 in
    let is : slice_get c.args.classes.now class ≡ Some c.in-Some.declared.now = got c.args.classes.now class c.in-Some.declared.now
    c.in-Some.ensures.lookup.3.0 c.in-Some.ensures.lookup.3.1 in
    let after = order.after c.loop-class.class-index class (slice_get-get_or c.args.order.now c.loop-class.class-index 0 c.loop-class-test.true) in
    let same : after.0 ≡ c.in-Some.declared.now = same_some after.0 c.in-Some.declared.now (sym after.1 ∙ is) in
    let stands : IfSome c.in-Some.declared.now.superclass (StandsBefore c.args.order.now c.loop-class.class-index) = subst
    (λ (d : DeclaredFields). IfSome d.superclass (StandsBefore c.args.order.now c.loop-class.class-index)) same after.2 in
    let none : row_above c.loop-class.rows.items c.in-Some.declared.now.superclass ≡ None =
    ap (λ (rows : List (Option KindRow)). row_above rows c.in-Some.declared.now.superclass) (sym c.deref.ensures.value) ∙ sym c.above_in.ensures
    ∙ c.in_default-above_in.is in
    absurd (above_is_known c.loop-class.rows.items c.in-Some.declared.now.superclass
    (IfSome_then c.in-Some.declared.now.superclass stands (λ s before. c.loop-class.invariant.placed s before)) none)

pub returns-in-Some-2-clause-kinds : goal.returns-in-Some-2-clause-kinds
returns-in-Some-2-clause-kinds c = λ program names are.
    let same : map Some c.in-Some-2.rows.items ≡ c.loop-class.rows.items = rw c.in-Some-2.is at c.in_ok-rows-2.ensures.known ∙ c.deref-2.ensures.value in
    let index : c.loop-class.class-index ≤ length c.args.classes.now =
    (let end = c.loop-class.auto.class-index-end in let orders = c.if-order-classes.false in omega (arith, end, orders)) in
    are_kinds program names c.args.classes.now are (record { lists = c.loop-class.lists.items; rows = c.in-Some-2.rows.items })
    (subst (AreKindRows (length c.args.classes.now) c.args.classes.now c.loop-class.lists.items) (sym same)
    (rows_later c.loop-class.class-index (length c.args.classes.now) c.args.classes.now c.loop-class.lists.items c.loop-class.rows.items index
    c.loop-class.invariant.own))
    (sym (length-map c.in-Some-2.rows.items (λ (row : KindRow). Some row)) ∙ ap (λ (rows : List (Option KindRow)). length rows) same
    ∙ c.loop-class.invariant.long)

pub returns-in-None-clause-made : goal.returns-in-None-clause-made
returns-in-None-clause-made c = λ order.
    let known : (class : ℕ) → class < length c.deref-2.result.now → IsSome (get_or c.deref-2.result.now class None) =
    subst (λ (rows : List (Option KindRow)). (class : ℕ) → class < length rows → IsSome (get_or rows class None)) (sym c.deref-2.ensures.value)
    (λ class less.
    let stands = order.all class (omega (arith, less, c.loop-class.invariant.long)) in
    let l = stands.1 in let e = c.loop-class-test.false in c.loop-class.invariant.placed class (stands.0, omega (arith, l, e), stands.2)) in
    let some = c.in_ok-rows-2.ensures.made known in rw c.in-None.is at some
