-- What is written so far.
use Rattle.std.proofs.Common.{◌≡◌, ◌++◌, take}
use Rattle.std.specs.List.{flat_map}
use Rattle.jm_disassembler.specs.Texts.{marked_field}
use Rattle.jm_disassembler.proofs.member.write_fields.Given as goal

abbrev pub invariant-loop-field : goal.invariant-loop-field
invariant-loop-field l = l.out.bytes.items ≡ l.initial.out.bytes.items ++ flat_map (marked_field l.commented) (take l.field-index l.others)
