-- The text is written, and then what is lacking is told; or a call for the text failed.
use Rattle.std.proofs.Common.{subst}
use Rattle.jm_execute.specs.Endings.{explored}
use Rattle.jm_execute.specs.Written.{AllWritten, Broken, words}
use Rattle.jm_execute.proofs.Telling.{broken_told, whole_told}
use Rattle.jm_execute.proofs.exploring.tell_explored.Goals as goal

pub returns-in-Ok : goal.returns-in-Ok
returns-in-Ok g c = λ b is.
    let o = words g.O.Write.contents g.O.Watchable.ends in
    whole_told o (words g.E.Write.contents g.E.Watchable.ends) (explored b c.args.found.now c.args.wanted) c.tell_lack.result c.args.out.now c.write_all.new.self c.args.err.now c.tell_lack.new.err
    c.requires.out (subst (AllWritten o c.args.out.now c.write_all.new.self) is c.in-Ok.ensures) (c.tell_lack.ensures b)

pub returns-in-Err : goal.returns-in-Err
returns-in-Err g c = λ b is.
    let o = words g.O.Write.contents g.O.Watchable.ends in
    let w = words g.E.Write.contents g.E.Watchable.ends in
    broken_told o w (explored b c.args.found.now c.args.wanted) c.args.out.now c.write_all.new.self c.args.err.now c.tell_write_failed.new.err
    (subst (Broken o c.args.out.now c.write_all.new.self) is c.in-Err.ensures)
    c.tell_write_failed.ensures
