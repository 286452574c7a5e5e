-- All events were made, or a reply differed, or a growth was refused.
use Rattle.jm_execute.specs.Endings.{differed, interrupted}
use Rattle.jm_execute.proofs.Telling.{ends_in}
use Rattle.jm_execute.proofs.replaying.tell_replayed.Goals as goal

pub returns-in-None : goal.returns-in-None
returns-in-None g c = λ first w choice ended matches.
    let all = rw c.in-None.is at (rw c.in-Ok.is at ended) in
    let (ending, ends, leaves) = c.tell_end.ensures w matches in
    (ending, ends_in _ first choice w all ending ends, leaves)

pub returns-in-Some : goal.returns-in-Some
returns-in-Some g c = λ first w choice ended matches.
    let differs = rw c.in-Some.is at (rw c.in-Ok.is at ended) in
    (differed c.in-Some.line w, differs, c.tell_differed.ensures w matches)

pub returns-in-Err : goal.returns-in-Err
returns-in-Err g c = λ first w choice ended matches.
    (interrupted w, rw c.in-Err.is at ended, c.tell_interrupted.ensures w matches)
