-- One more class is passed, or the method is one of its methods.
use Rattle.std.proofs.Common.{◌+◌, ap, refl, arith, ◌∙◌}
use Rattle.jm_program.specs.declared.class.ClassParts.{ClassParts}
use Rattle.jm_interp.proofs.DeclaredMethods.{built_in_here, declared_there, none_passed, one_passed, own_here}
use Rattle.jm_interp.proofs.declared.member_of.Goals as goal

pub loop-built_in-init : goal.loop-built_in-init
loop-built_in-init c = (refl, none_passed c.args.linked.now.program c.args.number)

pub returns-then-left-count : goal.returns-then-left-count
returns-then-left-count c =
    let program = c.args.linked.now.program in
    let here =
    built_in_here program c.built_ins-built_in-items.result.now c.loop-built_in.built_in-index c.loop-built_in.class c.built_in-item.result
    c.built_ins-built_in-items.ensures c.loop-built_in.invariant.0 c.loop-built_in-test.true c.built_in-item.is in
    declared_there program c.args.number c.loop-built_in.class c.loop-built_in.left c.loop-built_in.invariant.1 here
    c.as_slice-count.ensures c.if-left-count.true c.member_at.result c.member_at.ensures

pub loop-built_in-preserved : goal.loop-built_in-preserved
loop-built_in-preserved c =
    let program = c.args.linked.now.program in
    let here =
    built_in_here program c.built_ins-built_in-items.result.now c.loop-built_in.built_in-index c.loop-built_in.class c.built_in-item.result
    c.built_ins-built_in-items.ensures c.loop-built_in.invariant.0 c.loop-built_in-test.true c.built_in-item.is in
    let passed =
    one_passed program c.args.number c.loop-built_in.class c.loop-built_in.left c.loop-built_in.invariant.1 here
    c.as_slice-count.ensures c.if-left-count.false in
    (ap (λ n. n + 1) c.loop-built_in.invariant.0, passed)

pub returns-then-left-count-2 : goal.returns-then-left-count-2
returns-then-left-count-2 c =
    let program = c.args.linked.now.program in
    let here =
    own_here program c.classes-own-items.result.now c.loop-own.own-index c.loop-own.class c.own-item.result
    c.classes-own-items.ensures.classes c.loop-own.invariant.0 c.loop-own-test.true c.own-item.is in
    declared_there program c.args.number c.loop-own.class c.loop-own.left c.loop-own.invariant.1 here
    (c.as_slice-count-in-loop-own.ensures ∙ ap (λ (x : ClassParts). x.methods) c.parts.ensures.parts) c.if-left-count-2.true
    c.member_at-then-left-count-2.result c.member_at-then-left-count-2.ensures

pub loop-own-preserved : goal.loop-own-preserved
loop-own-preserved c =
    let program = c.args.linked.now.program in
    let here =
    own_here program c.classes-own-items.result.now c.loop-own.own-index c.loop-own.class c.own-item.result
    c.classes-own-items.ensures.classes c.loop-own.invariant.0 c.loop-own-test.true c.own-item.is in
    let invariant = c.loop-own.invariant.0 in (
      omega (arith, invariant),
      one_passed program c.args.number c.loop-own.class c.loop-own.left c.loop-own.invariant.1 here
          (c.as_slice-count-in-loop-own.ensures ∙ ap (λ (x : ClassParts). x.methods) c.parts.ensures.parts) c.if-left-count-2.false,
    )
