use Rattle.std.proofs.Common.{◌≡◌, Ok, true, sym, ◌∙◌, arith, rules}
use Rattle.std.specs.List.{list_all}
use Rattle.std.proofs.lemmas.Grind.{common_steps}
use Rattle.jm_encode.specs.Encoding.{has_bytes, encoded}
use Rattle.jm_encode.proofs.Codes.{starts_ok, encoded_spelled}
use Rattle.jm_encode.proofs.encode.encode_code.Goals as goal

pub all_bytes-requires-clause-starts : goal.all_bytes-requires-clause-starts
all_bytes-requires-clause-starts c = c.deref.ensures.value ∙ sym (starts_ok c.args.instructions.now c.in_ok-starts.starts.items c.in_ok-starts.ensures).1

pub all_bytes-requires-clause-short : goal.all_bytes-requires-clause-short
all_bytes-requires-clause-short c = (starts_ok c.args.instructions.now c.in_ok-starts.starts.items c.in_ok-starts.ensures).0

pub returns-clause-spelled : goal.returns-clause-spelled
unfolding encoded
returns-clause-spelled c =
    let ruled : list_all has_bytes c.args.instructions.now ≡ true = search rules in
    let given : encoded c.args.instructions.now ≡ Ok (record { bytes = c.new.result; starts = c.new-2.result }) = grind (arith, common_steps) in
    encoded_spelled c.args.instructions.now (record { bytes = c.new.result; starts = c.new-2.result }) c.requires.some c.in_ok-bytes.ensures.range ruled given
