use Rattle.std.proofs.Common.{◌≡◌, map, take, drop}
use Rattle.jm_bytes.specs.Reading.{each}
use Rattle.jm_bytes.proofs.Loops.{with_front_all}
use Rattle.jm_class_format.specs.declared.instruction.PlacedInstr.{PlacedInstr}
use Rattle.jm_class_format.specs.Code.{numbered}
use Rattle.jm_opcodes.proofs.targets.number_each.Given as goal

abbrev pub invariant-loop-placed : goal.invariant-loop-placed
invariant-loop-placed l = record {
  offsets : map (λ (p : PlacedInstr). p.offset) l.code ≡ map (λ (p : PlacedInstr). p.offset) l.initial.code;
  so_far : with_front_all (take l.placed-index l.code) (each (numbered l.starts) (drop l.placed-index l.code)) ≡ each (numbered l.starts) l.initial.code;
}
