use Rattle.std.proofs.Common.{sym, ◌∙◌}
use Rattle.std.proofs.lemmas.Result.{err_from_is_err_and}
use Rattle.jm_bytes.proofs.Loops.{each_fault}
use Rattle.jm_class_format.specs.PoolEntries.{entry_of}
use Rattle.jm_pool.proofs.references.entries_of.Goals as goal

pub returns-in_err-entry : goal.returns-in_err-entry
returns-in_err-entry c =
    let p = err_from_is_err_and c.from_residual-in_err-entry.result c.from_residual-in_err-entry.ensures.1 in
    rw (p.1, p.2) (λ other. sym c.loop-raw.invariant ∙ each_fault (entry_of c.args.raws.now) c.loop-raw.entries.items c.args.raws.now c.loop-raw.raw-index c.raw-item.result c.raw-item.result _ c.loop-raw-test.true c.raw-item.is (c.in_err-entry.ensures other))
