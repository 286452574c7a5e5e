-- One more row.
use Rattle.std.proofs.Common.{ℕ, ◌+◌, ◌<◌, List, Option, drop, get_or, length, map, sym, ◌∙◌, ap, subst}
use Rattle.jm_tables.specs.Tables.{or_number, row_at, first_of}
use Rattle.jm_tables.specs.Nodes.{IsThere, found_from, number_of, row_from}
use Rattle.jm_tables.proofs.NodeLaws.{there_empty, found_empty, there_after, longer_same, longer_twice}
use Rattle.jm_tables.proofs.SharedRowLaws.{root_there, root_row, merged_more, more_rows, no_rows}
use Rattle.jm_tables.proofs.row.merge_rows.Goals as goal

pub loop-row-init : goal.loop-row-init
loop-row-init c =
    let rows = λ (columns : ℕ). first_of (map (row_from c.args.nodes.now.items columns c.args.levels) c.args.roots.now) c.args.rows.now in (
      longer_same c.args.nodes.now.items,
      there_empty c.args.nodes.now.items c.args.levels c.requires.empty,
      λ columns column small. ap (λ n. or_number (number_of n) (rows columns column))
          (found_empty c.args.nodes.now.items c.args.levels column c.requires.empty),
    )

pub merge-requires-clause-second : goal.merge-requires-clause-second
merge-requires-clause-second c =
    subst (IsThere c.loop-row.nodes.items c.args.levels) (sym c.root_at.ensures)
    (there_after c.args.nodes.now.items c.loop-row.nodes.items c.args.levels _ c.loop-row.invariant.0
    (root_there c.args.nodes.now.items c.args.levels c.args.roots.now _ c.requires.empty c.requires.there))

pub loop-row-preserved : goal.loop-row-preserved
loop-row-preserved c =
    let row : ℕ = get_or c.args.rows.now c.loop-row.row-index 0 in
    let table = λ (columns : ℕ). map (row_from c.args.nodes.now.items columns c.args.levels) c.args.roots.now in
    let there : IsThere c.args.nodes.now.items c.args.levels c.root_at.result = subst (IsThere c.args.nodes.now.items c.args.levels) (sym c.root_at.ensures)
    (root_there c.args.nodes.now.items c.args.levels c.args.roots.now row c.requires.empty c.requires.there) in
    let within : c.loop-row.row-index < length c.args.rows.now = c.loop-row-test.true in (
      longer_twice c.args.nodes.now.items c.loop-row.nodes.items c.merge.new.nodes.items c.loop-row.invariant.0 c.merge.ensures.longer,
      c.in_ok-merged.ensures.there,
      λ columns column small.
          merged_more c.args.nodes.now.items c.loop-row.nodes.items c.merge.new.nodes.items c.args.levels c.loop-row.merged c.root_at.result column
          (row_at (table columns) row column)
          (first_of (table columns) (drop (c.loop-row.row-index + 1) c.args.rows.now) column)
          (root_row c.args.nodes.now.items columns c.args.levels c.args.roots.now row column c.requires.empty small
          ∙ ap (λ n. number_of (found_from c.args.nodes.now.items c.args.levels n column)) (sym c.root_at.ensures))
          c.loop-row.invariant.0 there c.in_ok-merged.merged (c.in_ok-merged.ensures.found column)
          ∙ more_rows (table columns) c.args.rows.now c.loop-row.row-index column
          (number_of (found_from c.loop-row.nodes.items c.args.levels c.loop-row.merged column)) within
          ∙ c.loop-row.invariant.2 columns column small,
    )

pub returns-clause-found : goal.returns-clause-found
returns-clause-found c = λ columns column small.
    let table : List (List (Option ℕ)) = map (row_from c.args.nodes.now.items columns c.args.levels) c.args.roots.now in
    sym (no_rows table c.args.rows.now c.loop-row.row-index column (number_of (found_from c.loop-row.nodes.items c.args.levels c.loop-row.merged column))
    c.loop-row-test.false) ∙ c.loop-row.invariant.2 columns column small
