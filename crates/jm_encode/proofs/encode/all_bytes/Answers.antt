use Rattle.std.proofs.Common.{length, take, sym, ap, ◌∙◌, arith}
use Rattle.std.proofs.lemmas.Result.{err_from_is_err_and}
use Rattle.std.proofs.lemmas.List.Elements.{All-more, All-same, at_read}
use Rattle.std.proofs.lemmas.List.{take_all}
use Rattle.jm_bytes.proofs.Loops.{with_front_all-nil}
use Rattle.jm_encode.specs.Encoding.{placed_from, texts, placed_text}
use Rattle.jm_encode.specs.Ranges.{InRange}
use Rattle.jm_encode.proofs.Codes.{starts_length}
use Rattle.jm_encode.proofs.CodeLoop.{code_next, code_fault, code_done, code_room}
use Rattle.jm_encode.proofs.encode.all_bytes.Goals as goal

pub loop-i-init : goal.loop-i-init
loop-i-init c = record { so_far = rw c.new-out.ensures.items (with_front_all-nil (texts (placed_text c.args.starts.now) (placed_from 0 c.args.instructions.now))); range = λ k d lt. absurd (omega arith) }

pub bounds-starts-i : goal.bounds-starts-i
bounds-starts-i c = omega (arith, ap length c.requires.starts, starts_length 0 c.args.instructions.now)

pub put_instruction-requires-clause-room : goal.put_instruction-requires-clause-room
put_instruction-requires-clause-room c = code_room c.args.starts.now c.args.instructions.now c.loop-i.i c.index-instructions-i.result c.loop-i-test.true c.requires.starts c.index-instructions-i.is c.requires.short

pub returns-in_err-put_instruction-clause-given : goal.returns-in_err-put_instruction-clause-given
returns-in_err-put_instruction-clause-given c =
    let p = err_from_is_err_and c.from_residual.result c.from_residual.ensures.1 in
    rw (p.1, p.2) (λ other. sym c.loop-i.invariant.so_far ∙ code_fault c.args.starts.now c.args.instructions.now c.loop-i.out.items c.loop-i.i c.index-instructions-i.result _ c.loop-i-test.true c.requires.starts c.index-instructions-i.is (c.in_err-put_instruction.ensures.given other))

pub loop-i-preserved : goal.loop-i-preserved
loop-i-preserved c =
    record {
      so_far = sym (code_next c.args.starts.now c.args.instructions.now c.loop-i.out.items c.put_instruction.new.out.items c.loop-i.i c.index-instructions-i.result c.loop-i-test.true c.requires.starts c.index-instructions-i.is c.in_ok-put_instruction.ensures.given) ∙ c.loop-i.invariant.so_far;
      range = All-more InRange c.args.instructions.now c.loop-i.i c.index-instructions-i.result c.loop-i-test.true c.loop-i.invariant.range (at_read c.args.instructions.now InRange c.loop-i.i c.index-instructions-i.result c.loop-i-test.true c.index-instructions-i.is c.in_ok-put_instruction.ensures.range c.index-instructions-i.result);
    }

pub returns-clause-given : goal.returns-clause-given
returns-clause-given c = sym c.loop-i.invariant.so_far ∙ code_done c.args.starts.now c.args.instructions.now c.loop-i.out.items c.loop-i.i c.loop-i-test.false

pub returns-clause-range : goal.returns-clause-range
returns-clause-range c = All-same InRange c.args.instructions.now (take c.loop-i.i c.args.instructions.now) (sym (take_all c.loop-i.i c.args.instructions.now c.loop-i-test.false)) c.loop-i.invariant.range
