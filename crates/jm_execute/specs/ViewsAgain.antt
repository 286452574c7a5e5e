-- What a debugger tells in answer to a line: the answer's bytes or a refusal.
use Rattle.std.specs.Prelude.{ℕ, List, Result, Ok, Err, Vec}
use Rattle.std.specs.declared.alloc.Global.{Global}
use Rattle.jm_debug.specs.declared.fault.DebugFault.{DebugFault}

abbrev pub told : Result (Vec ℕ Global) DebugFault → Result (List ℕ) DebugFault
told (Ok answer) = Ok answer.items
told (Err fault) = Err fault
