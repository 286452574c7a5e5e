use Rattle.std.proofs.Common.{◌≡◌, arith, get_or, sym, subst}
use Rattle.jm_machine.proofs.Counting.{passed, within_at, passed_at}
use Rattle.jm_machine.proofs.first_objects.pass_limit.Goals as goal

pub returns-in_default : goal.returns-in_default
returns-in_default c = let few = c.in_default.ensures in passed c.args.literals.now c.args.limit (omega (arith, few))

pub returns-in-None : goal.returns-in-None
returns-in-None c =
    let text = subst (λ t. t ≡ get_or c.args.literals.now c.loop-text.text-index t) (sym c.as_slice.ensures) c.text-item.is in
    let few = c.in-None.ensures in
    passed_at c.args.literals.now c.args.limit c.loop-text.left c.loop-text.text-index c.as_slice.result.now
    c.loop-text.invariant c.loop-text-test.true text (omega (arith, few, c.literal_cells.ensures))

pub returns : goal.returns
returns c = within_at c.args.literals.now c.args.limit c.loop-text.left c.loop-text.text-index c.loop-text.invariant c.loop-text-test.false
