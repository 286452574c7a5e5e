-- The text denotes the class, where each part can be said.
use Rattle.std.proofs.Common.{refl, arith}
use Rattle.jm_disassembler.proofs.Classes.{parts_denote}
use Rattle.jm_disassembler.proofs.disassembly.class_text.Goals as goal

pub returns-clause-denotes : goal.returns-clause-denotes
returns-clause-denotes c = λ said.
    let parts = c.parts-parts.result.now in
    let small = c.if-prove.false in
    parts_denote c.args.commented c.args.class.now parts parts.version.minor c.parts-parts.ensures.parts c.parts-parts.ensures.fits refl (omega (arith, small)) said
