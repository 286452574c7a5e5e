-- The text that was written denotes the class.
use Rattle.std.proofs.Common.{◌≡◌, false, None, sym, ap, ◌∙◌, refl, arith}
use Rattle.jm_program.specs.declared.class.ClassParts.{ClassParts}
use Rattle.jm_jasmin.specs.Text.{denoted}
use Rattle.jm_disassembler.specs.Texts.{class_text}
use Rattle.jm_disassembler.specs.Unsaid.{first_unsaid}
use Rattle.jm_disassembler.proofs.Classes.{parts_denote}
use Rattle.jm_disassembler.proofs.disassembly.disassemble.Goals as goal

pub returns-in_ok-text-in-None : goal.returns-in_ok-text-in-None
returns-in_ok-text-in-None c =
    let class : ClassParts = c.args.class.now in
    let parts : ClassParts = c.parts-parts.result.now in
    let same : parts ≡ class = c.parts-parts.ensures.parts in
    let said : first_unsaid class ≡ None = ap first_unsaid (sym same) ∙ sym c.first_of.ensures ∙ c.in-None.is in
    let small = c.if-prove.false in
    let text = c.in_ok-text-in-None.ensures ∙ ap (class_text false) same in
    (said, text, ap denoted text ∙ parts_denote false class parts parts.version.minor same c.parts-parts.ensures.fits refl (omega (arith, small)) said)
