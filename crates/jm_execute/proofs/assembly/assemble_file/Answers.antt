-- One step after the other.
use Rattle.std.proofs.lemmas.Result.{err_from_is_err_and}
use Rattle.jm_execute.specs.Verdicts.{assembly_verdict}
use Rattle.jm_execute.proofs.Chains.{hindered, hindered_next}
use Rattle.jm_execute.proofs.Assemblies.{assembled_by, assembled_next}
use Rattle.jm_execute.proofs.assembly.assemble_file.Goals as goal

pub returns-in_err-text : goal.returns-in_err-text
unfolding assembly_verdict
returns-in_err-text c =
    let p = err_from_is_err_and c.from_residual.result c.from_residual.ensures.1 in
    rw (p.1, p.2) (hindered _ _ _ c.in_err-text.ensures)

pub returns-in_err-class : goal.returns-in_err-class
unfolding assembly_verdict
returns-in_err-class c =
    let p = err_from_is_err_and c.from_residual-in_err-class.result c.from_residual-in_err-class.ensures.1 in
    rw (p.1, p.2) (hindered_next _ _ _ _ c.in_ok-text.ensures (hindered _ _ _ (rw c.deref.ensures at c.in_err-class.ensures)))

pub returns : goal.returns
unfolding assembly_verdict
returns c = assembled_next _ _ _ _ c.in_ok-text.ensures (assembled_next _ _ _ _ (rw c.deref.ensures at c.in_ok-class.ensures) (assembled_by _ _ _ (rw c.deref-2.ensures at c.written_class.ensures.written) c.written_class.ensures.spelled))
