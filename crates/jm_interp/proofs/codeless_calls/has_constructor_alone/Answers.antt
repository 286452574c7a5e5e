use Rattle.std.proofs.Common.{ap, length, subst, ◌<◌, ◌≤◌, ◌∙◌}
use Rattle.jm_builtins.specs.List.{the_builtins}
use Rattle.jm_interp.proofs.CodelessCalls.{numbers_tell, past_them, among_them}
use Rattle.jm_interp.proofs.codeless_calls.has_constructor_alone.Goals as goal

pub returns-then-class-built_ins : goal.returns-then-class-built_ins
returns-then-class-built_ins c name named =
    past_them c.args.class (length the_builtins) _ (subst (λ k. k ≤ c.args.class) (ap length c.built_ins.ensures) c.if-class-built_ins.true)

pub returns : goal.returns
returns c name named =
    let tell = numbers_tell c.args.linked.now.program c.methods-methods.ensures.linked.loads c.args.class name named in
    among_them c.args.class (length the_builtins) (subst (λ k. c.args.class < k) (ap length c.built_ins.ensures) c.if-class-built_ins.false)
    (c.has_other_methods.ensures ∙ tell)
