-- Each turn writes some bytes more.
use Rattle.std.proofs.Common.{◌++◌, [], refl, take}
use Rattle.jm_execute.proofs.Writing.{nothing_written, written_then, split_more, broken_after}
use Rattle.jm_execute.proofs.watched.Watched.write_all.Goals as goal

pub loop-rest-init : goal.loop-rest-init
loop-rest-init g c = record { done = []; whole = refl; written = nothing_written _ _ }

pub loop-rest-preserved : goal.loop-rest-preserved
loop-rest-preserved g c =
    let i = c.loop-rest.invariant in
    record {
      done = i.done ++ take c.in-Ok.count c.loop-rest.rest.now;
      whole = split_more c.args.bytes.now i.done c.loop-rest.rest.now c.in-Ok.count i.whole;
      written = written_then _ _ _ _ _ _ i.written c.in-Ok.ensures.written;
    }

pub returns-in-Err : goal.returns-in-Err
returns-in-Err g c = let i = c.loop-rest.invariant in broken_after _ _ _ _ _ i.done c.loop-rest.rest.now i.whole i.written c.in-Err.ensures.written
