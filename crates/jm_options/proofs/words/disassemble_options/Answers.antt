-- What the matches of a disassembly hold, and what they lack.
use Rattle.jm_options.proofs.Finding.{lacks_part}
use Rattle.jm_options.specs.declared.request.DisassembleOptions.{DisassembleOptions}
use Rattle.jm_options.proofs.words.disassemble_options.Goals as goal

pub returns-in_err-text_asked : goal.returns-in_err-text_asked
returns-in_err-text_asked c =
    lacks_part _ _ c.from_residual.result _ c.from_residual.ensures.1 c.in_err-text_asked.ensures (λ (o : DisassembleOptions). o.file) (λ o holds. holds.file)
