-- One more cell.
use Rattle.std.proofs.Common.{◌+◌, ◌<◌, drop, get_or, length, sym, ◌∙◌}
use Rattle.jm_tables.specs.declared.table.Cell.{Cell}
use Rattle.jm_tables.specs.Nodes.{tree_row}
use Rattle.jm_tables.proofs.NodeLaws.{longer_twice}
use Rattle.jm_tables.proofs.SharedRowLaws.{written_row, more_cells, no_cells}
use Rattle.jm_tables.proofs.row.write_cells.Goals as goal

pub loop-cell-preserved : goal.loop-cell-preserved
loop-cell-preserved c =
    let within : c.loop-cell.cell-index < length c.args.cells.now = c.loop-cell-test.true in
    let cell : Cell = get_or c.args.cells.now c.loop-cell.cell-index (record { column = 0; number = 0 }) in (
      longer_twice c.args.nodes.now.items c.loop-cell.nodes.items c.write.new.nodes.items c.loop-cell.invariant.0 c.write.ensures.longer,
      c.in_ok-written.ensures.there,
      λ column small.
          written_row c.loop-cell.nodes.items c.write.new.nodes.items c.args.levels c.loop-cell.written c.in_ok-written.written column cell
          (drop (c.loop-cell.cell-index + 1) c.args.cells.now) small
          (c.requires.cells c.loop-cell.cell-index (record { column = 0; number = 0 }) within).0 (c.in_ok-written.ensures.found column)
          ∙ more_cells (tree_row c.loop-cell.nodes.items c.args.levels c.loop-cell.written) c.args.cells.now c.loop-cell.cell-index column
          (record { column = 0; number = 0 }) within
          ∙ c.loop-cell.invariant.2 column small,
    )

pub returns-clause-found : goal.returns-clause-found
returns-clause-found c = λ column small.
    sym (no_cells (tree_row c.loop-cell.nodes.items c.args.levels c.loop-cell.written) c.args.cells.now c.loop-cell.cell-index column c.loop-cell-test.false)
    ∙ c.loop-cell.invariant.2 column small
