use Rattle.std.proofs.Common.{◌≡◌, take, drop, true, length}
use Rattle.std.specs.List.{All, list_all}
use Rattle.jm_encode.specs.Encoding.{has_bytes}
use Rattle.jm_encode.specs.Ranges.{InRange}
use Rattle.jm_class_writer.specs.Drafts.{each_of}
use Rattle.jm_class_writer.specs.CodeParts.{instr_indexed}
use Rattle.jm_class_writer.specs.Ranges.{InstrInRange}
use Rattle.jm_class_writer.proofs.Loops.{with_front}
use Rattle.jm_class_writer.proofs.instruction.all_indexed.Given as goal

abbrev pub invariant-loop-instruction : goal.invariant-loop-instruction
invariant-loop-instruction l = record {
  indexed : with_front l.all.items (each_of instr_indexed (drop l.instruction-index l.instructions) l.draft) ≡ each_of instr_indexed l.instructions l.fn.draft;
  bytes : list_all has_bytes l.all.items ≡ true;
  count : length l.all.items ≡ l.instruction-index;
  range : All InRange l.all.items → All InstrInRange (take l.instruction-index l.instructions);
}
