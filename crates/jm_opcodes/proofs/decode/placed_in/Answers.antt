use Rattle.std.proofs.Common.{sym, ◌∙◌, ◌-◌, length, rules}
use Rattle.std.proofs.lemmas.Result.{err_from_is_err_and}
use Rattle.jm_bytes.proofs.Loops.{run_fault}
use Rattle.jm_class_format.specs.Code.{placed}
use Rattle.jm_opcodes.proofs.decode.placed_in.Goals as goal

pub returns-in_err-one-clause-given : goal.returns-in_err-one-clause-given
returns-in_err-one-clause-given c =
    let p = err_from_is_err_and c.from_residual-in_err-one.result c.from_residual-in_err-one.ensures.1 in
    rw (p.1, p.2) (λ other. sym c.loop-reader.invariant.so_far ∙ (rw c.len.ensures at (run_fault placed c.loop-reader.all.items (length c.args.bytes.now - c.len.result) c.loop-reader.reader _ (search rules) (c.in_err-one.ensures.given other))))
