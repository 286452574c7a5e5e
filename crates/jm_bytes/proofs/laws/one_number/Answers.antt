use Rattle.std.proofs.Common.{ℕ}
use Rattle.jm_bytes.specs.Format.{number, signed}
use Rattle.jm_bytes.proofs.Unique.{one_front}
use Rattle.jm_bytes.proofs.laws.one_number.Goals as goal

pub returns-clause-unsigned : goal.returns-clause-unsigned
returns-clause-unsigned c w a b u v m n h k e = one_front {F = ℕ} (number 0 w) a b u v m n h k e

pub returns-clause-signed : goal.returns-clause-signed
returns-clause-signed c w a b u v y z h k e = one_front {F = ℕ} (signed 0 w) a b u v y z h k e
