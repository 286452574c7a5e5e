-- The cells that are left over the row that was written are all cells over the row.
use Rattle.std.proofs.Common.{◌≡◌, ℕ, ◌*◌, ◌^◌, ◌<◌, drop}
use Rattle.jm_tables.specs.Tables.{with_cells}
use Rattle.jm_tables.specs.Nodes.{IsThere, IsLonger, tree_row}
use Rattle.jm_tables.proofs.row.write_cells.Given as goal

abbrev pub invariant-loop-cell : goal.invariant-loop-cell
invariant-loop-cell l =
    IsLonger l.fn.nodes.items l.nodes.items
    × IsThere l.nodes.items l.levels l.written
    × ((column : ℕ) → column < 2 ^ (4 * l.levels) → with_cells (tree_row l.nodes.items l.levels l.written) (drop l.cell-index l.cells) column ≡ with_cells
    (tree_row l.fn.nodes.items l.levels l.root) l.cells column)
