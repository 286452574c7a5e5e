use Rattle.std.proofs.Common.{◌≡◌, ◌<◌, List, ℕ, ◌++◌, length, ltb, true, refl, arith}
use Rattle.std.proofs.lemmas.List.{length-append}
use Rattle.std.proofs.lemmas.Bool.{lt-ltb}
use Rattle.std.specs.Int.{Width, byte_len}
use Rattle.jm_bytes.specs.Reading.{number_at, signed_at}
use Rattle.jm_bytes.specs.Format.{number, signed}
use Rattle.jm_bytes.proofs.Unique.{more_refused}
use Rattle.jm_bytes.proofs.laws.exact_length.Goals as goal

-- so few bytes hold no number
too_short : (w : Width) (front lacks : List ℕ) → length (front ++ lacks) ≡ byte_len w → 0 < length lacks → ltb (length front) (byte_len w) ≡ true
too_short w front lacks len some = lt-ltb _ _ (omega (arith, length-append front lacks))

pub returns-clause-more : goal.returns-clause-more
returns-clause-more c w cut trailing text rest n h more = more_refused trailing (number cut w) text rest n h more

pub returns-clause-fewer : goal.returns-clause-fewer
unfolding number_at
returns-clause-fewer c w cut trailing front lacks n h some = rw (too_short w front lacks h.0 some) refl

pub returns-clause-signed_more : goal.returns-clause-signed_more
returns-clause-signed_more c w cut trailing text rest z h more = more_refused trailing (signed cut w) text rest z h more

pub returns-clause-signed_fewer : goal.returns-clause-signed_fewer
unfolding signed_at
returns-clause-signed_fewer c w cut trailing front lacks z h some = rw (too_short w front lacks h.0 some) refl
