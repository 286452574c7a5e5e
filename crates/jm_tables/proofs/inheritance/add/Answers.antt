-- The class has its row.
use Rattle.std.specs.List.{All}
use Rattle.std.proofs.Common.{◌∙◌, ℕ, List, ap, subst, ◌≡◌, length, arith, sym}
use Rattle.jm_tables.specs.declared.table.Cell.{Cell}
use Rattle.jm_tables.specs.Tables.{first_of, with_cells, with_row}
use Rattle.jm_tables.specs.Placing.{HasRow, ArePlaced}
use Rattle.jm_tables.proofs.PlacingLaws.{rows_more, row_kept, not_none}
use Rattle.jm_tables.proofs.inheritance.add.Goals as goal

pub returns-clause-added : goal.returns-clause-added
returns-clause-added c = λ classes is rows.
    let placed = (rw c.in-Some.is at c.in_ok-rows.ensures).found in
    rows_more classes c.args.places.now c.args.table.now c.args.class c.args.declared.now c.in-Some.rows.items is rows
    (subst (λ (above : List ℕ). ArePlaced c.args.places.now above c.in-Some.rows.items) c.deref.ensures.value placed)
    c.in-Ok.row (c.in-Ok.ensures.1 ∙ c.row_count.ensures) c.requires.class c.push.new.self
    (c.in_ok-push.ensures.ok ∙ ap (λ (rs : List ℕ). with_row c.args.table.now (with_cells (first_of c.args.table.now.rows rs) c.deref-3.result.now))
    c.deref-2.ensures.value
    ∙ ap (λ (cells : List Cell). with_row c.args.table.now (with_cells (first_of c.args.table.now.rows c.in-Some.rows.items) cells)) c.deref-3.ensures.value)

pub returns-clause-kept : goal.returns-clause-kept
returns-clause-kept c = λ small other has.
    let row : c.in-Ok.row ≡ length c.args.table.now.rows = c.in-Ok.ensures.1 ∙ c.row_count.ensures in
    row_kept c.args.places.now c.args.class c.in-Ok.row other c.requires.class (omega (arith, small, row)) has

pub returns-in_default-clause-all : goal.returns-in_default-clause-all
returns-in_default-clause-all c = λ has.
    not_none c.in_ok-rows.field-0 c.in_default.is (c.in_ok-rows.ensures.all
    (subst (λ (above : List ℕ). All (HasRow c.args.places.now) above) (sym c.deref.ensures.value) has))
