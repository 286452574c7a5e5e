use Rattle.std.proofs.Common.{◌<◌, length, refl, sym, ◌∙◌, take, arith}
use Rattle.std.proofs.Math.Seq.{map-set_same}
use Rattle.std.proofs.lemmas.Result.{err_from_is_err_and}
use Rattle.jm_bytes.proofs.Loops.{each_fault}
use Rattle.jm_class_format.specs.declared.instruction.PlacedInstr.{PlacedInstr}
use Rattle.jm_class_format.specs.Code.{numbered}
use Rattle.jm_opcodes.proofs.InPlace.{in_place_next}
use Rattle.jm_opcodes.proofs.targets.number_each.Goals as goal

pub returns-in_err-number-clause-offsets : goal.returns-in_err-number-clause-offsets
returns-in_err-number-clause-offsets c =
    map-set_same (λ (p : PlacedInstr). p.offset) c.loop-placed.code c.loop-placed.placed-index c.number.new.placed _ c.number.ensures.offset ∙ c.loop-placed.invariant.offsets

pub returns-in_err-number-clause-given : goal.returns-in_err-number-clause-given
returns-in_err-number-clause-given c =
    let p = err_from_is_err_and c.from_residual.result c.from_residual.ensures.1 in
    let lt : c.loop-placed.placed-index < length c.loop-placed.code = omega arith in
    rw (p.1, p.2) (λ other. sym c.loop-placed.invariant.so_far ∙ each_fault (numbered c.args.starts.now) (take c.loop-placed.placed-index c.loop-placed.code) c.loop-placed.code c.loop-placed.placed-index _ _ _ lt refl (c.in_err-number.ensures.given other))

pub loop-placed-preserved : goal.loop-placed-preserved
loop-placed-preserved c =
    let lt : c.loop-placed.placed-index < length c.loop-placed.code = omega arith in
    record {
      offsets = map-set_same (λ (p : PlacedInstr). p.offset) c.loop-placed.code c.loop-placed.placed-index c.number.new.placed _ c.number.ensures.offset ∙ c.loop-placed.invariant.offsets;
      so_far = sym (in_place_next (numbered c.args.starts.now) c.loop-placed.code c.loop-placed.placed-index _ c.number.new.placed _ lt refl c.in_ok-number.ensures.given) ∙ c.loop-placed.invariant.so_far;
    }
