-- Each turn looks at one file more.
use Rattle.std.proofs.lemmas.Result.{err_from_is_err_and}
use Rattle.std.proofs.Common.{◌∙◌}
use Rattle.jm_execute.proofs.FileLists.{read_more, not_all_read}
use Rattle.jm_execute.proofs.files.check_read.Goals as goal

pub loop-file-preserved : goal.loop-file-preserved
loop-file-preserved c = c.loop-file.invariant ∙ read_more _ _ _ _ c.loop-file-test.true c.file-item.is c.in_ok-_bytes.ensures

pub returns-in_err-_bytes : goal.returns-in_err-_bytes
returns-in_err-_bytes c =
    let p = err_from_is_err_and c.from_residual.result c.from_residual.ensures.1 in
    rw (p.1, p.2) (not_all_read _ _ _ _ c.loop-file-test.true c.file-item.is c.in_err-_bytes.ensures c.loop-file.invariant)
