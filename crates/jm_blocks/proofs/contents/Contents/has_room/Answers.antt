use Rattle.std.proofs.Common.{◌≡◌, ◌+◌, ◌≤◌, arith, ap, length, sum, sym, ◌∙◌}
use Rattle.std.specs.Prelude.{nat_le}
use Rattle.jm_blocks.specs.Cells.{sizes_of, has_room}
use Rattle.jm_blocks.proofs.Sizes.{held_by, cells_by, count_by_fields, room_by_cells, few_where_room, no_room_for_large, no_room_beside_large}
use Rattle.jm_blocks.proofs.contents.Contents.has_room.Goals as goal
use Rattle.jm_blocks.proofs.contents.Contents.has_room.Goals.{else-objects-eq1-via-then-objects-eq1+else-self-gt-SHARED, else-objects-eq1-via-else-objects-eq1}

pub returns-then-cells-gt-SHARED-clause-value : goal.returns-then-cells-gt-SHARED-clause-value
returns-then-cells-gt-SHARED-clause-value c =
    let many = count_by_fields c.self.inside.entries.items c.self.inside.values c.args.self.now c.self.view_is in
    sym (no_room_for_large (sizes_of c.args.self.now) c.args.cells (omega (arith, many, c.len-objects.ensures, c.self.inside.entries.ok.0, c.if-objects-eq0.false)) c.if-cells-gt-SHARED.true)

pub returns-then-self-gt-SHARED-clause-value : goal.returns-then-self-gt-SHARED-clause-value
returns-then-self-gt-SHARED-clause-value c =
    let many = count_by_fields c.self.inside.entries.items c.self.inside.values c.args.self.now c.self.view_is in
    let cells = cells_by c.self.inside.entries.items c.self.inside.values c.args.self.now c.self.inside.cells c.self.view_is c.self.invariant in
    sym (no_room_beside_large (sizes_of c.args.self.now) c.args.cells (omega (arith, many, c.len-objects.ensures, c.self.inside.entries.ok.0, c.if-objects-eq1.true)) (omega (arith, cells, c.if-self-gt-SHARED.true)))

by_cells : (c : goal.Joined-else-objects-eq1) → nat_le (c.self.inside.cells + c.args.cells) 512 ≡ has_room (sizes_of c.args.self.now) c.args.cells
by_cells c =
    let many = count_by_fields c.self.inside.entries.items c.self.inside.values c.args.self.now c.self.view_is in
    let cells = cells_by c.self.inside.entries.items c.self.inside.values c.args.self.now c.self.inside.cells c.self.view_is c.self.invariant in
    let held = held_by c.self.inside.entries.items c.self.inside.values c.args.self.now c.self.inside.cells c.self.view_is c.self.invariant in
    let one : length (sizes_of c.args.self.now) ≡ 1 → sum (sizes_of c.args.self.now) ≤ 256 = λ single. elim c.else-objects-eq1.branch [
      | else-objects-eq1-via-then-objects-eq1+else-self-gt-SHARED w ↦ omega (arith, cells, w.if-self-gt-SHARED.false)
      | else-objects-eq1-via-else-objects-eq1 w ↦ absurd (w.if-objects-eq1.false (omega (arith, many, single, c.len-objects.ensures, c.self.inside.entries.ok.0)))
    ] in
    ap (λ n. nat_le (n + c.args.cells) 512) cells
    ∙ room_by_cells (sizes_of c.args.self.now) c.args.cells (omega (arith, many, c.len-objects.ensures, c.self.inside.entries.ok.0, c.if-objects-eq0.false)) held c.if-cells-gt-SHARED.false one

pub returns-clause-value : goal.returns-clause-value
returns-clause-value c = by_cells c

pub returns-clause-open : goal.returns-clause-open
returns-clause-open c h two = few_where_room c.args.self.now c.args.cells (sym (by_cells c) ∙ h) two
