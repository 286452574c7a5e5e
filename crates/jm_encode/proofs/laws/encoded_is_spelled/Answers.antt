use Rattle.std.proofs.Common.{◌≡◌, true, sym, rules}
use Rattle.std.specs.List.{list_all}
use Rattle.jm_encode.specs.Encoding.{has_bytes}
use Rattle.jm_encode.proofs.Codes.{encoded_ok, encoded_spelled}
use Rattle.jm_encode.proofs.Sizes.{encoded_size}
use Rattle.jm_encode.proofs.laws.encoded_is_spelled.Goals as goal

pub returns-clause-spelled : goal.returns-clause-spelled
returns-clause-spelled c instrs e some range rule h =
    let ruled : list_all has_bytes instrs ≡ true = search rules in
    encoded_spelled instrs e some range ruled h

pub returns-clause-size : goal.returns-clause-size
returns-clause-size c instrs e h = encoded_size instrs e h

pub returns-clause-starts : goal.returns-clause-starts
returns-clause-starts c instrs e h = sym (encoded_ok instrs e h).1

pub returns-clause-short : goal.returns-clause-short
returns-clause-short c instrs e h = (encoded_ok instrs e h).0
