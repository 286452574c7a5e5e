use Rattle.std.proofs.Common.{w8, w16, w32, w64}
use Rattle.jm_bytes.specs.Laws.{signed_found}
use Rattle.jm_bytes.specs.Writing.{signed_bytes}
use Rattle.jm_bytes.proofs.Spelled.{s1_text, s2_text, s4_text, s8_text}
use Rattle.jm_bytes.proofs.laws.signed_read_back.Goals as goal

pub returns-clause-s1 : goal.returns-clause-s1
returns-clause-s1 c z rest fits = signed_found w8 (signed_bytes w8 z) rest z (s1_text z fits)

pub returns-clause-s2 : goal.returns-clause-s2
returns-clause-s2 c z rest fits = signed_found w16 (signed_bytes w16 z) rest z (s2_text z fits)

pub returns-clause-s4 : goal.returns-clause-s4
returns-clause-s4 c z rest fits = signed_found w32 (signed_bytes w32 z) rest z (s4_text z fits)

pub returns-clause-s8 : goal.returns-clause-s8
returns-clause-s8 c z rest fits = signed_found w64 (signed_bytes w64 z) rest z (s8_text z fits)
