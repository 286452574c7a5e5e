-- The first method that is the place's decides.
use Rattle.std.proofs.Common.{sym, ◌∙◌, refl}
use Rattle.jm_debug.proofs.Instructions.{all_methods, method_found, method_passed, no_method_left}
use Rattle.jm_debug.proofs.instruction.has_place.Goals as goal

pub loop-method-init : goal.loop-method-init
loop-method-init c = refl

pub returns-then-is_named : goal.returns-then-is_named
returns-then-is_named c =
    let found = method_found c.args.methods.now c.args.place.now c.loop-method.method-index _ c.loop-method-test.true c.method-item.is (sym c.is_named.ensures ∙ c.if-is_named.true) in
    c.has_instruction.ensures ∙ sym found ∙ sym c.loop-method.invariant ∙ all_methods c.args.methods.now c.args.place.now

pub loop-method-preserved : goal.loop-method-preserved
loop-method-preserved c =
    c.loop-method.invariant
    ∙ method_passed c.args.methods.now c.args.place.now c.loop-method.method-index _ c.loop-method-test.true c.method-item.is (sym c.is_named.ensures ∙ c.if-is_named.false)

pub returns : goal.returns
returns c =
    sym (no_method_left c.args.methods.now c.args.place.now c.loop-method.method-index c.loop-method-test.false)
    ∙ sym c.loop-method.invariant ∙ all_methods c.args.methods.now c.args.place.now
