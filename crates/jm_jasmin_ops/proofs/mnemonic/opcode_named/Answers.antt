use Rattle.std.proofs.Common.{◌∙◌}
use Rattle.jm_jasmin_ops.proofs.Mnemonics.{named_by_table}
use Rattle.jm_jasmin_ops.proofs.mnemonic.opcode_named.Goals as goal

pub returns : goal.returns
returns c = c.row_named.ensures ∙ named_by_table _ _ c.opcodes.result.now c.args.word.now c.opcodes.ensures.meanings c.opcodes.ensures.mnemonics c.if-eq.ensures
