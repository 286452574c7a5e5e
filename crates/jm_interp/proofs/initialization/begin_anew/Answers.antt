use Rattle.std.proofs.Common.{arith}
use Rattle.jm_interp.proofs.ConstantValues.{many_constants}
use Rattle.jm_interp.proofs.Initialized.{class_of, frames_begun, begins}
use Rattle.jm_interp.proofs.initialization.begin_anew.Goals as goal

pub set_constants-requires : goal.set_constants-requires
set_constants-requires g c =
    let d = class_of c.requires.1 in
    let many = many_constants c.args.at.linked.now.program c.constants_of.result.now d.class_of.fields (c.constants_of.ensures d.class_of d.at) in (
      frames_begun c.requires.1 c.requires.2 c.put_in_progress.ensures.does,
      d.class_of,
      record { own = d.at; among_all = c.in-Some.ensures d.class_of d.at },
      omega (arith, many, c.if-constants_of.false),
    )

pub returns-clause-steps : goal.returns-clause-steps
returns-clause-steps g c = begins c.requires.1 c.requires.2 c.put_in_progress.ensures.does c.set_constants.ensures.does
