-- One step after the other.
use Rattle.std.proofs.lemmas.Result.{err_from_is_err_and}
use Rattle.jm_execute.specs.Verdicts.{program_of}
use Rattle.jm_execute.proofs.Chains.{hindered, hindered_next, given_next}
use Rattle.jm_execute.proofs.preparation.machine_of.Goals as goal

pub returns-in_err-check_read-clause-program : goal.returns-in_err-check_read-clause-program
unfolding program_of
returns-in_err-check_read-clause-program g c =
    let p = err_from_is_err_and c.from_residual.result c.from_residual.ensures.1 in
    rw (p.1, p.2) (hindered _ _ _ c.in_err-check_read.ensures)

pub returns-in_err-classes-clause-program : goal.returns-in_err-classes-clause-program
unfolding program_of
returns-in_err-classes-clause-program g c =
    let p = err_from_is_err_and c.from_residual-in_err-classes.result c.from_residual-in_err-classes.ensures.1 in
    rw (p.1, p.2) (hindered_next _ _ _ _ c.in_ok-check_read.ensures (hindered _ _ _ c.in_err-classes.ensures))

pub returns-in_err-linked-clause-program : goal.returns-in_err-linked-clause-program
unfolding program_of
returns-in_err-linked-clause-program g c =
    let p = err_from_is_err_and c.from_residual-in_err-linked.result c.from_residual-in_err-linked.ensures.1 in
    rw (p.1, p.2) (hindered_next _ _ _ _ c.in_ok-check_read.ensures (hindered_next _ _ _ _ c.in_ok-classes.ensures (hindered _ _ _ c.in_err-linked.ensures)))

pub returns-clause-program : goal.returns-clause-program
unfolding program_of
returns-clause-program g c = given_next _ _ _ _ _ c.in_ok-check_read.ensures (given_next _ _ _ _ _ c.in_ok-classes.ensures (given_next _ _ _ _ _ c.in_ok-linked.ensures c.loaded_machine.ensures.program))
