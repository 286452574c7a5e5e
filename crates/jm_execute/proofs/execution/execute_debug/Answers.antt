-- The session begins with the program's first world.
use Rattle.jm_debug.specs.Session.{session_of}
use Rattle.jm_execute.specs.Beginnings.{beginning}
use Rattle.jm_execute.specs.Endings.{answered}
use Rattle.jm_execute.proofs.Beginnings.{session_begins}
use Rattle.jm_execute.proofs.Telling.{session_told, unheard, untouched_told}
use Rattle.jm_execute.proofs.execution.execute_debug.Goals as goal

pub returns-in-Ok : goal.returns-in-Ok
returns-in-Ok g c =
    let m = c.in-Ok.machine in
    let (t, first, heard, left) = c.answer_lines-status.ensures (session_of (beginning m)) (c.new-debugger.ensures (beginning m) c.in-Ok.ensures.ready.matches) in
    (answered t, session_begins _ m _ t c.in-Ok.ensures.session c.in-Ok.ensures.ready.limit_is first, heard, session_told _ _ t _ _ _ _ _ c.requires.err left c.tell_failure.ensures)

pub returns-in-Err : goal.returns-in-Err
returns-in-Err g c =
    let (ending, allows, silent, none, told, whole) = c.tell_obstacle.ensures.job _ c.in-Err.ensures.session in
    (ending, allows, unheard _ _ ending _ silent, untouched_told _ _ ending _ _ _ _ c.requires.out none told)
