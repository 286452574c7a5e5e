use Rattle.std.proofs.Common.{◌+◌, ◌∷◌, [], List, Some, length, true, refl, sym, ap, ◌∙◌, drop, arith, length-append}
use Rattle.std.specs.List.{list_all}
use Rattle.std.proofs.lemmas.Result.{err_from_is_err_and}
use Rattle.std.proofs.lemmas.List.Elements.{All-pop}
use Rattle.std.proofs.lemmas.List.Folds.{list_all-append}
use Rattle.std.proofs.lemmas.Bool.{and_from}
use Rattle.jm_class_format.specs.declared.instruction.IndexedInstr.{IndexedInstr}
use Rattle.jm_encode.specs.Encoding.{has_bytes}
use Rattle.jm_encode.specs.Ranges.{InRange}
use Rattle.jm_class_writer.specs.Drafts.{each_of}
use Rattle.jm_class_writer.specs.CodeParts.{instr_indexed}
use Rattle.jm_class_writer.specs.Ranges.{InstrInRange}
use Rattle.jm_class_writer.proofs.Loops.{with_front, each_next, each_fault, known_next, known_all}
use Rattle.jm_class_writer.proofs.instruction.all_indexed.Goals as goal

pub returns-in_err-instr-clause-indexed : goal.returns-in_err-instr-clause-indexed
returns-in_err-instr-clause-indexed c =
    let p = err_from_is_err_and c.from_residual.result c.from_residual.ensures.1 in
    rw (p.1, p.2) (λ other. sym c.loop-instruction.invariant.indexed ∙ each_fault instr_indexed c.loop-instruction.all.items c.args.instructions.now c.loop-instruction.instruction-index c.instruction-item.result _ c.loop-instruction.draft _ c.loop-instruction-test.true c.instruction-item.is (c.in_err-instr.ensures.indexed other))

pub loop-instruction-preserved : goal.loop-instruction-preserved
loop-instruction-preserved c = record {
  indexed =
      ap (λ (items : List IndexedInstr). with_front items (each_of instr_indexed (drop (c.loop-instruction.instruction-index + 1) c.args.instructions.now) c.instr_indexed.new.draft)) c.in_ok-push.ensures.items
      ∙ sym (each_next instr_indexed c.loop-instruction.all.items c.args.instructions.now c.loop-instruction.instruction-index c.instruction-item.result _ c.loop-instruction.draft c.in_ok-instr.instr c.instr_indexed.new.draft c.loop-instruction-test.true c.instruction-item.is c.in_ok-instr.ensures.indexed)
      ∙ c.loop-instruction.invariant.indexed;
  bytes =
      ap (list_all has_bytes) c.in_ok-push.ensures.items
      ∙ list_all-append has_bytes c.loop-instruction.all.items (c.in_ok-instr.instr ∷ [])
      ∙ and_from (list_all has_bytes c.loop-instruction.all.items) (list_all has_bytes (c.in_ok-instr.instr ∷ [])) c.loop-instruction.invariant.bytes (and_from (has_bytes c.in_ok-instr.instr) true c.in_ok-instr.ensures.bytes refl);
  count = omega (arith, ap length c.in_ok-push.ensures.items, length-append c.loop-instruction.all.items (c.in_ok-instr.instr ∷ []), c.loop-instruction.invariant.count);
  range = λ all.
      let known = All-pop InRange c.push.new.self.items c.loop-instruction.all.items (Some c.in_ok-instr.instr) c.in_ok-push.ensures.items all in
      known_next InstrInRange c.args.instructions.now c.loop-instruction.instruction-index c.instruction-item.result c.loop-instruction-test.true c.instruction-item.is (c.loop-instruction.invariant.range known.0) (c.in_ok-instr.ensures.range known.1);
}

pub returns-clause-range : goal.returns-clause-range
returns-clause-range c = λ all. known_all InstrInRange c.args.instructions.now c.loop-instruction.instruction-index c.loop-instruction-test.false (c.loop-instruction.invariant.range all)
