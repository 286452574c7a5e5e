-- Each class in turn.
use Rattle.std.proofs.Common.{◌≡◌, ◌∙◌, ◌<◌, ◌≤◌, ◌+◌, ℕ, List, Option, Some, replicate, get_or, ◌^◌, ◌-◌, length, slice_get, sym, ap, subst, arith}
use Rattle.std.specs.List.{All}
use Rattle.std.proofs.lemmas.List.{length-replicate}
use Rattle.std.proofs.lemmas.Option.{slice_get-get_or}
use Rattle.jm_tables.specs.declared.inheritance.Declared.{Declared}
use Rattle.jm_tables.specs.Tables.{TableView, row_at}
use Rattle.jm_tables.specs.Inheriting.{StandsBefore}
use Rattle.jm_tables.specs.Placing.{HasRow, AreRows}
use Rattle.jm_tables.proofs.PlacingLaws.{written_back, none_placed, all_none, got, whole_rows, some_weaker, row_more, row_number, all_rows, same_some}
use Rattle.jm_tables.proofs.inheritance.Inheritance.of.Goals as goal

pub loop-class-init : goal.loop-class-init
loop-class-init c =
    let none : c.in_ok-places.places.items ≡ replicate (length c.args.classes.now) (2 ^ 32 - 1) = c.in_ok-places.ensures.items_if_clones_equal (λ y h. h) in
    let rows : length c.in_ok-table.table.rows ≡ 0 = ap (λ (t : TableView). length t.rows) c.in_ok-table.ensures in (
      ap (λ (t : TableView). t.columns) c.in_ok-table.ensures,
      omega (arith, rows),
      ap length none ∙ length-replicate (length c.args.classes.now) (2 ^ 32 - 1),
      none_placed c.args.classes.now c.in_ok-places.places.items c.in_ok-table.table
          (λ k r e. all_none (length c.args.classes.now) k r (sym (ap (λ xs. slice_get xs k) none) ∙ e)),
      λ few class before. let none = before.1 in absurd (omega (arith, none)),
    )

pub loop-class-preserved : goal.loop-class-preserved
loop-class-preserved c =
    let class : ℕ = get_or c.args.order.now c.loop-class.class-index 0 in
    let is : slice_get c.args.classes.now class ≡ Some c.in-Some.declared.now = got c.args.classes.now class c.in-Some.declared.now
    c.in-Some.ensures.lookup.3.0 c.in-Some.ensures.lookup.3.1 in
    let long : length c.add.new.places ≡ c.loop-class.places.len = c.add.auto.places ∙ ap length c.deref_mut.ensures.value ∙ sym c.loop-class.places.ok.0 in
    let back = written_back c.add.new.places c.loop-class.places.items c.loop-class.places.len long (sym c.loop-class.places.ok.0) in (
      c.add.ensures.columns ∙ c.loop-class.invariant.0,
      (let a = c.add.ensures.rows in let b = c.loop-class.invariant.1 in omega (arith, a, b)),
      ap length back ∙ long ∙ c.loop-class.places.ok.0 ∙ c.loop-class.invariant.2,
      subst (λ (places : List ℕ). AreRows c.args.classes.now places c.add.new.table) (sym back)
          (c.add.ensures.added c.args.classes.now is (subst (λ (places : List ℕ). AreRows c.args.classes.now places c.loop-class.table)
          (sym c.deref_mut.ensures.value) c.loop-class.invariant.3)),
      λ few. let b = c.loop-class.invariant.1 in let d = c.if-order-classes.false in let l = c.loop-class-test.true in
          let small : length c.loop-class.table.rows < 2 ^ 32 - 1 = omega (arith, few, b, d, l) in
          subst (λ (places : List ℕ). (k : ℕ) → StandsBefore c.args.order.now (c.loop-class.class-index + 1) k → HasRow places k) (sym back)
          (row_more c.args.order.now c.loop-class.places.items c.add.new.places c.loop-class.class-index (c.loop-class.invariant.4 few)
          (λ k has. c.add.ensures.kept small k (subst (λ (places : List ℕ). HasRow places k) (sym c.deref_mut.ensures.value) has))
          (c.in_ok-add.ensures.placed small c.if-not-branch.false)),
    )

pub returns : goal.returns
returns c =
    let few : length c.loop-class.table.rows ≤ length c.args.classes.now = (let a = c.loop-class.invariant.1 in let b = c.loop-class.auto.class-index-end in
    let d = c.if-order-classes.false in omega (arith, a, b, d)) in
    record {
      rows = some_weaker c.whole.result _ _
          (λ all is class column small less.
          ap (λ (rows : List (List (Option ℕ))). row_at rows class column) is.1
          ∙ whole_rows c.args.classes.now c.loop-class.places.items c.loop-class.table class (length c.args.classes.now) column c.loop-class.invariant.3 is.0
          (omega (arith, small, c.loop-class.invariant.2)) few (omega (arith, less, c.loop-class.invariant.0)))
          c.whole.ensures.rows;
      made = λ order. c.whole.ensures.made
          (λ k less. let a = c.loop-class.invariant.2 in
          let stands = order.all k (omega (arith, less, a)) in
          let l = stands.1 in let e = c.loop-class-test.false in
          row_number c.loop-class.places.items k (c.loop-class.invariant.4 order.few k (stands.0, omega (arith, l, e), stands.2)));
    }

pub returns-then-not-branch-clause-made : goal.returns-then-not-branch-clause-made
returns-then-not-branch-clause-made c = λ order.
    let class : ℕ = get_or c.args.order.now c.loop-class.class-index 0 in
    let is : slice_get c.args.classes.now class ≡ Some c.in-Some.declared.now = got c.args.classes.now class c.in-Some.declared.now
    c.in-Some.ensures.lookup.3.0 c.in-Some.ensures.lookup.3.1 in
    let after = order.after c.loop-class.class-index class (slice_get-get_or c.args.order.now c.loop-class.class-index 0 c.loop-class-test.true) in
    let same : after.0 ≡ c.in-Some.declared.now = same_some after.0 c.in-Some.declared.now (sym after.1 ∙ is) in
    let stand : All (StandsBefore c.args.order.now c.loop-class.class-index) c.in-Some.declared.now.above.items = subst
    (λ (d : Declared). All (StandsBefore c.args.order.now c.loop-class.class-index) d.above.items) same after.2 in
    let rows : All (HasRow c.loop-class.places.items) c.in-Some.declared.now.above.items = all_rows c.args.order.now c.loop-class.places.items
    c.in-Some.declared.now.above.items c.loop-class.class-index (c.loop-class.invariant.4 order.few) stand in
    sym c.if-not-branch.true ∙ c.in_ok-add.ensures.all (subst (λ (places : List ℕ). All (HasRow places) c.in-Some.declared.now.above.items)
    (sym c.deref_mut.ensures.value) rows)
