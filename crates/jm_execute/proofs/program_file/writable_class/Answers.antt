-- The class itself, once its bytes are made.
use Rattle.std.proofs.Common.{List, ℕ, Ok, Result, ap}
use Rattle.jm_bytes.specs.Reading.{and_then}
use Rattle.jm_execute.specs.Verdicts.{Cause}
use Rattle.jm_execute.proofs.program_file.writable_class.Goals as goal

pub returns-in-Ok : goal.returns-in-Ok
returns-in-Ok c = ap (λ (s : Result (List ℕ) Cause). and_then s (λ bytes. Ok c.args.class)) c.in-Ok.ensures.written
