-- Each turn adds the class of one file more.
use Rattle.std.proofs.lemmas.Result.{err_from_is_err_and}
use Rattle.std.proofs.Common.{◌∙◌}
use Rattle.jm_execute.proofs.FileLists.{behind_none, class_more, no_class_here}
use Rattle.jm_execute.proofs.preparation.classes_of.Goals as goal

pub loop-file-init : goal.loop-file-init
loop-file-init c = rw c.new-classes.ensures.items (behind_none _)

pub loop-file-preserved : goal.loop-file-preserved
loop-file-preserved c = rw c.in-Ok.ensures.items (c.loop-file.invariant ∙ class_more _ _ _ _ _ c.loop-file-test.true c.file-item.is c.in_ok-class.ensures)

pub returns-in_err-class : goal.returns-in_err-class
returns-in_err-class c =
    let p = err_from_is_err_and c.from_residual.result c.from_residual.ensures.1 in
    rw (p.1, p.2) (no_class_here _ _ _ _ _ c.loop-file-test.true c.file-item.is c.in_err-class.ensures c.loop-file.invariant)
