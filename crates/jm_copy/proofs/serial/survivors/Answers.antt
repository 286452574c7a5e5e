use Rattle.std.proofs.Common.{ap}
use Rattle.jm_copy.specs.declared.copies.Copies.{Copies}
use Rattle.jm_copy.proofs.Whole.{collected, fresh_copies}
use Rattle.jm_copy.proofs.serial.survivors.Goals as goal

pub copy_or_rewind-requires-clause-fresh : goal.copy_or_rewind-requires-clause-fresh
copy_or_rewind-requires-clause-fresh c = fresh_copies c.args.condemned.now c.in-Ok.words c.new.result c.args.tenured c.last-kept.result c.in-Ok.ensures.words c.new.ensures c.last-kept.ensures c.requires.apart

pub returns-clause-ok : goal.returns-clause-ok
returns-clause-ok c =
    let to : Copies = record { words = c.in-Ok.words; young = c.new.result; tenured = c.args.tenured; kept = c.last-kept.result } in
    let fresh = fresh_copies c.args.condemned.now c.in-Ok.words c.new.result c.args.tenured c.last-kept.result c.in-Ok.ensures.words c.new.ensures c.last-kept.ensures c.requires.apart in
    let out = c.in-Ok-copy_or_rewind.ensures.ok in
    collected c.args.condemned.now c.args.roots.now to c.copy_or_rewind.new.to c.in-Ok-copy_or_rewind.moved.roots.items c.in-Ok-copy_or_rewind.moved.remembered.items fresh (ap (λ s. s.lane) c.new.ensures) out.1 out.0
