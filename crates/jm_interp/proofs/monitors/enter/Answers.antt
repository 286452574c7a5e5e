use Rattle.std.proofs.Common.{arith}
use Rattle.jm_interp.proofs.Locked.{lies, enters}
use Rattle.jm_interp.proofs.OnThread.{numbered}
use Rattle.jm_interp.proofs.monitors.enter.Goals as goal

pub serial-serial-requires : goal.serial-serial-requires
serial-serial-requires g c = lies c.requires.on c.requires.held

pub overflow_add-at : goal.overflow_add-at
overflow_add-at g c = let few = numbered c.requires.on.on in omega arith

pub returns-in-Ok-Entered-clause-does : goal.returns-in-Ok-Entered-clause-does
returns-in-Ok-Entered-clause-does g c =
    let k = c.in-Ok-Entered in
    enters c.requires.on c.requires.held c.serial-serial.ensures k.field-0-is c.enter.new.self k.ensures.entered k.ensures.model

pub returns-in-Ok-Blocked-clause-does : goal.returns-in-Ok-Blocked-clause-does
returns-in-Ok-Blocked-clause-does g c =
    let k = c.in-Ok-Blocked in
    enters c.requires.on c.requires.held c.serial-serial.ensures k.field-0-is c.enter.new.self k.ensures.entered k.ensures.model

pub returns-in-Ok-CountEnds-clause-does : goal.returns-in-Ok-CountEnds-clause-does
returns-in-Ok-CountEnds-clause-does g c =
    let k = c.in-Ok-CountEnds in
    enters c.requires.on c.requires.held c.serial-serial.ensures k.field-0-is c.enter.new.self k.ensures.entered k.ensures.model
