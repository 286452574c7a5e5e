use Rattle.std.proofs.Common.{subst, arith}
use Rattle.std.specs.Prelude.{IfSome}
use Rattle.jm_linked.specs.Links.{NamesClass, class_name_of}
use Rattle.jm_state.specs.Parts.{named_type}
use Rattle.jm_interp.proofs.Caught.{catches_named}
use Rattle.jm_interp.proofs.handlers.catches.Goals as goal

pub returns-in-Some : goal.returns-in-Some
returns-in-Some c w same =
    let program = c.args.linked.now.program in
    let class = c.in-Some.class in
    let named : NamesClass program class (class_name_of program class) =
    subst (λ o. IfSome o (λ n. NamesClass program n (class_name_of program n))) c.in-Some.is c.requires.named in
    catches_named w program (named_type program c.args.thrown) c.args.handler c.args.index class c.is_of.result same c.in-Some.is (omega arith) (omega arith)
    (c.is_of.ensures (class_name_of program class) named)
