-- The earlier rows are as they were, and the new one is behind them.
use Rattle.std.proofs.Common.{List, Option, ℕ, map, sym, ◌∙◌, ap, subst, arith}
use Rattle.jm_tables.specs.Tables.{TableView, with_cells, with_row, first_of}
use Rattle.jm_tables.specs.Nodes.{IsTable, IsLonger, row_from, tree_row}
use Rattle.jm_tables.proofs.NodeLaws.{longer_twice}
use Rattle.jm_tables.proofs.SharedRowLaws.{with_cells_at}
use Rattle.jm_tables.proofs.TableLaws.{view_after, table_after, table_more, view_more, on_err}
use Rattle.jm_tables.proofs.table.Table.push.Goals as goal

pub invariant_of-self : goal.invariant_of-self
invariant_of-self c = table_after c.self.inside.columns c.self.inside.levels c.self.inside.nodes.items c.merge_rows.new.nodes.items c.self.inside.roots.items
    c.merge_rows.ensures.longer c.self.invariant

pub returns-in_err-root-clause-err : goal.returns-in_err-root-clause-err
returns-in_err-root-clause-err c =
    on_err c.from_residual.result _ (view_after c.self.inside.nodes.items c.merge_rows.new.nodes.items c.self.inside.columns c.self.inside.levels
    c.self.inside.roots.items c.merge_rows.ensures.longer c.self.invariant.there ∙ c.self.view_is)

pub invariant_of-self-in_err-root-2 : goal.invariant_of-self-in_err-root-2
invariant_of-self-in_err-root-2 c =
    table_after c.self.inside.columns c.self.inside.levels c.self.inside.nodes.items c.write_cells.new.nodes.items c.self.inside.roots.items
    (longer_twice c.self.inside.nodes.items c.merge_rows.new.nodes.items c.write_cells.new.nodes.items c.merge_rows.ensures.longer
    c.write_cells.ensures.longer) c.self.invariant

pub returns-in_err-root-2-clause-err : goal.returns-in_err-root-2-clause-err
returns-in_err-root-2-clause-err c =
    on_err c.from_residual-in_err-root-2.result _
    (view_after c.self.inside.nodes.items c.write_cells.new.nodes.items c.self.inside.columns c.self.inside.levels c.self.inside.roots.items
    (longer_twice c.self.inside.nodes.items c.merge_rows.new.nodes.items c.write_cells.new.nodes.items c.merge_rows.ensures.longer
    c.write_cells.ensures.longer) c.self.invariant.there ∙ c.self.view_is)

pub invariant_of-self-in_err-push : goal.invariant_of-self-in_err-push
invariant_of-self-in_err-push c =
    let longer : IsLonger c.self.inside.nodes.items c.write_cells.new.nodes.items = longer_twice c.self.inside.nodes.items c.merge_rows.new.nodes.items
    c.write_cells.new.nodes.items c.merge_rows.ensures.longer c.write_cells.ensures.longer in
    subst (IsTable c.self.inside.columns c.self.inside.levels c.write_cells.new.nodes.items) (sym c.in_err-push.ensures.items)
    (table_after c.self.inside.columns c.self.inside.levels c.self.inside.nodes.items c.write_cells.new.nodes.items c.self.inside.roots.items longer
    c.self.invariant)

pub returns-in_err-push-clause-err : goal.returns-in_err-push-clause-err
returns-in_err-push-clause-err c =
    let longer : IsLonger c.self.inside.nodes.items c.write_cells.new.nodes.items = longer_twice c.self.inside.nodes.items c.merge_rows.new.nodes.items
    c.write_cells.new.nodes.items c.merge_rows.ensures.longer c.write_cells.ensures.longer in
    on_err c.from_residual-in_err-push.result _
    (ap (λ (roots : List ℕ). let t : TableView = record {
      columns = c.self.inside.columns;
      rows = map
          (row_from c.write_cells.new.nodes.items c.self.inside.columns c.self.inside.levels) roots;
    } in t) c.in_err-push.ensures.items
    ∙ view_after c.self.inside.nodes.items c.write_cells.new.nodes.items c.self.inside.columns c.self.inside.levels c.self.inside.roots.items longer
    c.self.invariant.there ∙ c.self.view_is)

pub invariant_of-self-2 : goal.invariant_of-self-2
invariant_of-self-2 c =
    let longer : IsLonger c.self.inside.nodes.items c.write_cells.new.nodes.items = longer_twice c.self.inside.nodes.items c.merge_rows.new.nodes.items
    c.write_cells.new.nodes.items c.merge_rows.ensures.longer c.write_cells.ensures.longer in
    subst (IsTable c.self.inside.columns c.self.inside.levels c.write_cells.new.nodes.items) (sym c.in_ok-push.ensures.items)
    (table_more c.self.inside.columns c.self.inside.levels c.write_cells.new.nodes.items c.self.inside.roots.items c.in_ok-root-2.root
    c.in_ok-root-2.ensures.there
    (table_after c.self.inside.columns c.self.inside.levels c.self.inside.nodes.items c.write_cells.new.nodes.items c.self.inside.roots.items longer
    c.self.invariant))

pub returns-clause-ok : goal.returns-clause-ok
returns-clause-ok c =
    let merged : IsLonger c.self.inside.nodes.items c.merge_rows.new.nodes.items = c.merge_rows.ensures.longer in
    let longer : IsLonger c.self.inside.nodes.items c.write_cells.new.nodes.items = longer_twice c.self.inside.nodes.items c.merge_rows.new.nodes.items
    c.write_cells.new.nodes.items merged c.write_cells.ensures.longer in
    let earlier : List (List (Option ℕ)) = map (row_from c.self.inside.nodes.items c.self.inside.columns c.self.inside.levels) c.self.inside.roots.items in
    ap (λ (roots : List ℕ). let t : TableView = record {
      columns = c.self.inside.columns;
      rows = map
          (row_from c.write_cells.new.nodes.items c.self.inside.columns c.self.inside.levels) roots;
    } in t) c.in_ok-push.ensures.items
    ∙ view_more c.self.inside.nodes.items c.write_cells.new.nodes.items c.self.inside.columns c.self.inside.levels c.self.inside.roots.items c.in_ok-root-2.root
    (with_cells (first_of earlier c.args.rows.now) c.args.cells.now) longer c.self.invariant.there
    (λ k small. c.in_ok-root-2.ensures.found k (omega (arith, c.self.invariant.serve, small))
    ∙ with_cells_at (tree_row c.merge_rows.new.nodes.items c.self.inside.levels c.in_ok-root.root) (first_of earlier c.args.rows.now) c.args.cells.now k
    (c.in_ok-root.ensures.found c.self.inside.columns k small
    ∙ ap (λ (roots : List ℕ). first_of (map (row_from c.self.inside.nodes.items c.self.inside.columns c.self.inside.levels) roots) c.args.rows.now k)
    c.deref.ensures.value))
    ∙ ap (λ (t : TableView). with_row t (with_cells (first_of t.rows c.args.rows.now) c.args.cells.now)) c.self.view_is
