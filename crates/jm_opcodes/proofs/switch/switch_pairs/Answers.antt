use Rattle.std.proofs.Common.{sym, ◌∙◌}
use Rattle.std.proofs.lemmas.Result.{err_from_is_err_and}
use Rattle.jm_bytes.proofs.Loops.{repeated_fault}
use Rattle.jm_class_format.specs.Instructions.{next_pair}
use Rattle.jm_opcodes.proofs.switch.switch_pairs.Goals as goal

pub returns-in_err-pairs : goal.returns-in_err-pairs
returns-in_err-pairs c =
    let p = err_from_is_err_and c.from_residual.result c.from_residual.ensures.1 in
    rw (p.1, p.2) (λ other. sym c.loop.invariant ∙ repeated_fault (next_pair c.args.at) c.loop.pairs.items c.args.count c.loop.counter c.loop.reader _ c.loop-test.true (c.in_err-pairs.ensures other))
