-- The bytes, and then their class.
use Rattle.std.proofs.lemmas.Result.{err_from_is_err_and}
use Rattle.jm_execute.specs.Verdicts.{class_of}
use Rattle.jm_execute.proofs.Chains.{hindered, given_next}
use Rattle.jm_execute.proofs.program_file.class_of.Goals as goal

pub returns-in_err-bytes : goal.returns-in_err-bytes
unfolding class_of
returns-in_err-bytes c =
    let p = err_from_is_err_and c.from_residual.result c.from_residual.ensures.1 in
    rw (p.1, p.2) (hindered _ _ _ c.in_err-bytes.ensures)

pub returns : goal.returns
unfolding class_of
returns c = given_next _ _ _ _ _ c.in_ok-bytes.ensures (rw c.deref.ensures at c.class_in_file.ensures)
