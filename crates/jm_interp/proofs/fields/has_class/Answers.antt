use Rattle.std.proofs.Common.{◌+◌, ◌<◌, eq-eqb, length, subst, sym}
use Rattle.jm_builtins.specs.List.{the_builtins}
use Rattle.jm_interp.proofs.Unwound.{named_numbered, named_within}
use Rattle.jm_interp.proofs.fields.has_class.Goals as goal

pub returns-then-class-declaring : goal.returns-then-class-declaring
returns-then-class-declaring c parts at =
    let program = c.args.linked.now.program in
    let within = named_within program c.args.declaring parts.name (named_numbered program c.args.declaring parts at) in
    (λ _. subst (λ n. n < length the_builtins + length program) (sym c.if-class-declaring.true) within, λ _. eq-eqb _ _ c.if-class-declaring.true)
