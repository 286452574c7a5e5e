-- The first class of the name decides.
use Rattle.std.proofs.Common.{◌≡◌, true, false, sym, ap, ◌∙◌, refl}
use Rattle.jm_program.specs.Names.{same_text}
use Rattle.jm_program.specs.declared.class.ClassParts.{ClassParts}
use Rattle.jm_world.specs.Classes.{method_in}
use Rattle.jm_debug.specs.Session.{has_instruction}
use Rattle.jm_debug.proofs.Instructions.{all_classes, class_found, class_passed, no_class_left}
use Rattle.jm_debug.proofs.instruction.is_place.Goals as goal

pub loop-class-init : goal.loop-class-init
loop-class-init c = refl

pub returns-then-eq : goal.returns-then-eq
returns-then-eq c =
    let p = c.args.place.now in
    let is : same_text c.class-item.result.name p.class ≡ true = ap (λ (x : ClassParts). same_text x.name p.class) (sym c.parts-parts.ensures.parts) ∙ sym c.eq.ensures ∙ c.if-eq.true in
    let found = class_found c.args.program.now p c.loop-class.class-index c.class-item.result c.loop-class-test.true c.class-item.is is in
    c.has_place.ensures
    ∙ ap (λ ms. has_instruction p.instruction (method_in ms p.method p.descriptor)) (c.as_slice.ensures ∙ ap (λ (x : ClassParts). x.methods) c.parts-parts.ensures.parts)
    ∙ sym found ∙ sym c.loop-class.invariant ∙ all_classes c.args.program.now p

pub loop-class-preserved : goal.loop-class-preserved
loop-class-preserved c =
    let p = c.args.place.now in
    let not : same_text c.class-item.result.name p.class ≡ false = ap (λ (x : ClassParts). same_text x.name p.class) (sym c.parts-parts.ensures.parts) ∙ sym c.eq.ensures ∙ c.if-eq.false in
    c.loop-class.invariant ∙ class_passed c.args.program.now p c.loop-class.class-index c.class-item.result c.loop-class-test.true c.class-item.is not

pub returns : goal.returns
returns c =
    sym (no_class_left c.args.program.now c.args.place.now c.loop-class.class-index c.loop-class-test.false)
    ∙ sym c.loop-class.invariant ∙ all_classes c.args.program.now c.args.place.now
