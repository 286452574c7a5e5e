-- No class, <init>, along the superclasses, and above.
use Rattle.std.proofs.Common.{sym, ◌∙◌}
use Rattle.std.specs.Borrow.{Bor}
use Rattle.std.specs.Prelude.{option_map}
use Rattle.jm_linker.specs.declared.members.Members.{Members}
use Rattle.jm_linker.proofs.FoundLaws.{method_answer, method_of_no_class, init_here, init_missing, along_resolved}
use Rattle.jm_linker.proofs.resolution.find_method_class.Goals as goal

pub returns-in_default : goal.returns-in_default
returns-in_default c = method_of_no_class c.args.sought.now.method.now.name c.args.sought.now.method.now.descriptor c.args.classes.now.program.now c.args.class.now (sym c.in_default.ensures)

pub returns-then-is_in : goal.returns-then-is_in
returns-then-is_in c = init_here c.args.sought.now.method.now.name c.args.sought.now.method.now.descriptor c.args.classes.now.program.now c.args.class.now c.in-Some.named.now.class.now (sym c.in-Some.ensures) (sym c.is_init.ensures ∙ c.if-is_init.true) (sym c.is_in.ensures ∙ c.if-is_in.true)

pub returns-then-is_init : goal.returns-then-is_init
returns-then-is_init c = init_missing c.args.sought.now.method.now.name c.args.sought.now.method.now.descriptor c.args.classes.now.program.now c.args.class.now c.in-Some.named.now.class.now (sym c.in-Some.ensures) (sym c.is_init.ensures ∙ c.if-is_init.true) (sym c.is_in.ensures ∙ c.if-is_in.false)

pub returns-in-Some-find_along : goal.returns-in-Some-find_along
returns-in-Some-find_along c = along_resolved c.args.sought.now.method.now.name c.args.sought.now.method.now.descriptor c.args.classes.now.program.now c.args.class.now c.in-Some.named.now.class.now c.in-Some-find_along.found.now.class.now (sym c.in-Some.ensures) (sym c.is_init.ensures ∙ c.if-is_init.false) (sym c.in-Some-find_along.ensures)

pub returns : goal.returns
returns c = method_answer c.args.sought.now.method.now.name c.args.sought.now.method.now.descriptor c.args.classes.now.program.now c.from_ref.result.now c.args.class.now c.in-Some.named.now.class.now (option_map (λ (m : Bor Members). m.now.class.now)) c.find_above.result (sym c.in-Some.ensures) (sym c.is_init.ensures ∙ c.if-is_init.false) (sym c.in_default-find_along.ensures) c.from_ref.ensures.value c.find_above.ensures
