use Rattle.std.proofs.Common.{sym, subst}
use Rattle.std.specs.Prelude.{IfOk}
use Rattle.jm_world.specs.Loads.{instruction_refusal}
use Rattle.jm_linked.specs.Links.{LinksIn}
use Rattle.jm_linker.specs.Answers.{Answers}
use Rattle.jm_linker.proofs.code.link_instruction.Goals as goal

pub returns-in-Plain-clause-refusal : goal.returns-in-Plain-clause-refusal
returns-in-Plain-clause-refusal c =
    let program = c.args.classes.now.program.now in
    subst (λ i. Answers c.link_plain.result (instruction_refusal program i)) (sym c.in-Plain.is) (c.link_plain.ensures.refusal program)

pub returns-in-Plain-clause-linked : goal.returns-in-Plain-clause-linked
returns-in-Plain-clause-linked c =
    let program = c.args.classes.now.program.now in
    subst (λ i. IfOk c.link_plain.result (λ linked. LinksIn program linked i)) (sym c.in-Plain.is) (c.link_plain.ensures.linked program)
