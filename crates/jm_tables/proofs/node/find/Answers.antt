-- A level down.
use Rattle.std.proofs.Common.{◌≡◌, ◌≢◌, ◌-◌, sym, ◌∙◌, ap, arith}
use Rattle.jm_tables.specs.Nodes.{child_of, found_from}
use Rattle.jm_tables.proofs.NodeLaws.{found_step, found_none}
use Rattle.jm_tables.proofs.node.find.Goals as goal

pub loop-level-preserved : goal.loop-level-preserved
loop-level-preserved c =
    let some : c.loop-level.level ≢ 0 = omega arith in (
      omega arith,
      c.loop-level.invariant.1 ∙ found_step c.args.nodes.now c.loop-level.level c.loop-level.found c.args.column some
          ∙ ap (λ n. found_from c.args.nodes.now (c.loop-level.level - 1) n c.args.column)
          (ap (child_of c.args.nodes.now c.loop-level.found) (sym c.digit.ensures.value) ∙ sym c.child-found.ensures),
    )

pub returns : goal.returns
returns c =
    let none : c.loop-level.level ≡ 0 = omega arith in
    sym (c.loop-level.invariant.1 ∙ ap (λ n. found_from c.args.nodes.now n c.loop-level.found c.args.column) none
    ∙ found_none c.args.nodes.now c.loop-level.found c.args.column)
