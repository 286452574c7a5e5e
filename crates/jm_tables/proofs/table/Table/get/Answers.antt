-- What is found is what the row has in the column.
use Rattle.std.proofs.Common.{ℕ, List, ◌<◌, sym, ◌∙◌, ap, arith}
use Rattle.jm_tables.specs.Tables.{TableView, row_at}
use Rattle.jm_tables.specs.Nodes.{number_of, found_from, root_at}
use Rattle.jm_tables.proofs.SharedRowLaws.{root_row}
use Rattle.jm_tables.proofs.TableLaws.{cell_past}
use Rattle.jm_tables.proofs.table.Table.get.Goals as goal

pub returns-then-column-self : goal.returns-then-column-self
returns-then-column-self c =
    sym (ap (λ (t : TableView). row_at t.rows c.args.row c.args.column) (sym c.self.view_is)
    ∙ cell_past c.self.inside.nodes.items c.self.inside.columns c.self.inside.levels c.self.inside.roots.items c.args.row c.args.column
    c.if-column-self.true)

pub returns : goal.returns
returns c = let small : c.args.column < c.self.inside.columns = omega (arith, c.if-column-self.false) in
    let row = root_row c.self.inside.nodes.items c.self.inside.columns c.self.inside.levels c.self.inside.roots.items c.args.row c.args.column
    c.self.invariant.empty small in
    let entry = c.find.ensures in
    c.number_of.ensures ∙ ap number_of (entry
    ∙ ap (λ (nodes : List (List ℕ)). found_from nodes c.self.inside.levels c.root_at-root.result c.args.column) c.deref-2.ensures.value
    ∙ ap (λ n. found_from c.self.inside.nodes.items c.self.inside.levels n c.args.column)
    (c.root_at-root.ensures ∙ ap (λ (roots : List ℕ). root_at roots c.args.row) c.deref.ensures.value))
    ∙ sym (ap (λ (t : TableView). row_at t.rows c.args.row c.args.column) (sym c.self.view_is) ∙ row)
