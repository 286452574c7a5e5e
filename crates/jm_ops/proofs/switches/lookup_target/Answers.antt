use Rattle.std.proofs.Common.{◌≡◌, ◌≢◌, ◌+◌, ◌-◌, ◌/◌, ◌<◌, ◌≤◌, ◌<ℤ◌, ◌≤ℤ◌, pos, None, true, length, get_or, sym, ap, subst, ◌∙◌, arith, rules, w32, to_z, of_z, FitsSigned}
use Rattle.std.proofs.lemmas.Int.{to_z-of_z}
use Rattle.std.proofs.lemmas.Option.{slice_get-get_or}
use Rattle.jm_values.specs.Switches.{target_in}
use Rattle.jm_program.specs.Instructions.{keys_rise}
use Rattle.jm_program.specs.declared.instruction.plain.SwitchPair.{SwitchPair}
use Rattle.jm_ops.proofs.Lookup.{found_at, none_left, below_pair, above_pair, above_of, below_of, not_below_of}
use Rattle.jm_ops.proofs.switches.lookup_target.Goals as goal

pub returns-then-pair-n : goal.returns-then-pair-n
returns-then-pair-n c =
    let ps = c.as_slice-pairs.result.now in
    let middle = c.loop-low.low + (c.loop-low.high - c.loop-low.low) / 2 in
    let none : SwitchPair = record { key = pos 0; target = 0 } in
    let pair = get_or ps middle none in
    let within : middle < length ps = omega arith in
    let rise : keys_rise None ps ≡ true = ap (keys_rise None) c.as_slice-pairs.ensures ∙ c.requires in
    let read = slice_get-get_or ps middle none within in
    let n = to_z w32 (of_z w32 c.args.n) in
    let same_n : n ≡ c.args.n = to_z-of_z w32 c.args.n c.ranges.n in
    let fits : FitsSigned w32 pair.key = search rules in
    let same_key : to_z w32 (of_z w32 pair.key) ≡ pair.key = to_z-of_z w32 pair.key fits in
    let key : pair.key ≡ c.args.n = sym same_key ∙ ap (to_z w32) c.if-pair-n.true ∙ same_n in
    let found = found_at ps c.args.lookup.now.default c.args.n middle pair rise read key in
    sym found ∙ ap (λ qs. target_in qs c.args.lookup.now.default c.args.n) c.as_slice-pairs.ensures

pub loop-low-preserved-then-pair-n-2 : goal.loop-low-preserved-then-pair-n-2
loop-low-preserved-then-pair-n-2 c =
    let ps = c.as_slice-pairs.result.now in
    let middle = c.loop-low.low + (c.loop-low.high - c.loop-low.low) / 2 in
    let none : SwitchPair = record { key = pos 0; target = 0 } in
    let pair = get_or ps middle none in
    let within : middle < length ps = omega arith in
    let rise : keys_rise None ps ≡ true = ap (keys_rise None) c.as_slice-pairs.ensures ∙ c.requires in
    let read = slice_get-get_or ps middle none within in
    let n = to_z w32 (of_z w32 c.args.n) in
    let same_n : n ≡ c.args.n = to_z-of_z w32 c.args.n c.ranges.n in
    let fits : FitsSigned w32 pair.key = search rules in
    let same_key : to_z w32 (of_z w32 pair.key) ≡ pair.key = to_z-of_z w32 pair.key fits in
    let less = subst (λ x. x <ℤ n) same_key (below_of (to_z w32 (of_z w32 pair.key)) n c.if-pair-n-2.true) in
    record {
      within = c.loop-low.invariant.within;
      ends = omega arith;
      below = below_pair ps n middle pair rise read less;
      above = c.loop-low.invariant.above;
    }

pub loop-low-preserved : goal.loop-low-preserved
loop-low-preserved c =
    let ps = c.as_slice-pairs.result.now in
    let middle = c.loop-low.low + (c.loop-low.high - c.loop-low.low) / 2 in
    let none : SwitchPair = record { key = pos 0; target = 0 } in
    let pair = get_or ps middle none in
    let within : middle < length ps = omega arith in
    let rise : keys_rise None ps ≡ true = ap (keys_rise None) c.as_slice-pairs.ensures ∙ c.requires in
    let read = slice_get-get_or ps middle none within in
    let n = to_z w32 (of_z w32 c.args.n) in
    let same_n : n ≡ c.args.n = to_z-of_z w32 c.args.n c.ranges.n in
    let fits : FitsSigned w32 pair.key = search rules in
    let same_key : to_z w32 (of_z w32 pair.key) ≡ pair.key = to_z-of_z w32 pair.key fits in
    let apart : pair.key ≢ n = λ e. c.if-pair-n.false (ap (of_z w32) (e ∙ same_n)) in
    let least = subst (λ x. n ≤ℤ x) same_key (not_below_of (to_z w32 (of_z w32 pair.key)) n c.if-pair-n-2.false) in
    record {
      within = omega arith;
      ends = omega arith;
      below = c.loop-low.invariant.below;
      above = above_pair ps n middle pair rise read (above_of n pair.key least apart);
    }

pub returns : goal.returns
returns c =
    let ps = c.as_slice-pairs.result.now in
    let n = to_z w32 (of_z w32 c.args.n) in
    let same_n : n ≡ c.args.n = to_z-of_z w32 c.args.n c.ranges.n in
    let met : c.loop-low.high ≤ c.loop-low.low = omega arith in
    let none = none_left ps c.args.lookup.now.default n c.loop-low.low c.loop-low.high met c.loop-low.invariant.below c.loop-low.invariant.above in
    sym none ∙ ap (target_in ps c.args.lookup.now.default) same_n ∙ ap (λ qs. target_in qs c.args.lookup.now.default c.args.n) c.as_slice-pairs.ensures
