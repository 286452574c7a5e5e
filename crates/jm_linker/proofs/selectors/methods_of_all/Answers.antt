-- The methods of one more class.
use Rattle.std.proofs.Common.{◌≡◌, ◌++◌, map, get_or, sym, ap, subst, ◌∙◌, arith}
use Rattle.jm_program.specs.declared.class.ClassParts.{ClassParts}
use Rattle.jm_linked.specs.Methods.{methods_of}
use Rattle.jm_linker.specs.declared.members.Members.{Members}
use Rattle.jm_linker.proofs.SelectorLaws.{classes_to, members_to}
use Rattle.jm_linker.proofs.selectors.methods_of_all.Goals as goal

pub loop-members-preserved : goal.loop-members-preserved
loop-members-preserved c =
    let m = c.members-item.result in
    c.in_ok-push_methods.ensures ∙ ap (λ xs. xs ++ methods_of m.class.now m.class.now.methods) c.loop-members.invariant
    ∙ sym (members_to (λ (x : Members). x.class.now) c.args.built_ins.now c.loop-members.members-index m (omega arith) c.members-item.is)

pub loop-class-preserved : goal.loop-class-preserved
loop-class-preserved c =
    let p = c.class-item.result in
    c.in_ok-push_methods-2.ensures ∙ ap (λ xs. xs ++ methods_of c.parts.result.now c.parts.result.now.methods) c.loop-class.invariant
    ∙ sym (classes_to (map (λ (x : Members). x.class.now) c.args.built_ins.now) c.args.program.now c.loop-class.class-index c.parts.result.now
    (omega arith) (subst (λ (x : ClassParts). x ≡ get_or c.args.program.now c.loop-class.class-index x) (sym c.parts.ensures.parts) c.class-item.is))
