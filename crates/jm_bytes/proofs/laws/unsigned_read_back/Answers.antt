use Rattle.std.proofs.Common.{w8, w16, w32, w64}
use Rattle.std.specs.Int.{to_be_bytes}
use Rattle.jm_bytes.specs.Laws.{number_found}
use Rattle.jm_bytes.proofs.Spelled.{u1_text, u2_text, u4_text, u8_text}
use Rattle.jm_bytes.proofs.laws.unsigned_read_back.Goals as goal

pub returns-clause-u1 : goal.returns-clause-u1
returns-clause-u1 c n rest lt = number_found w8 (to_be_bytes w8 n) rest n (u1_text n lt)

pub returns-clause-u2 : goal.returns-clause-u2
returns-clause-u2 c n rest lt = number_found w16 (to_be_bytes w16 n) rest n (u2_text n lt)

pub returns-clause-u4 : goal.returns-clause-u4
returns-clause-u4 c n rest lt = number_found w32 (to_be_bytes w32 n) rest n (u4_text n lt)

pub returns-clause-u8 : goal.returns-clause-u8
returns-clause-u8 c n rest lt = number_found w64 (to_be_bytes w64 n) rest n (u8_text n lt)
