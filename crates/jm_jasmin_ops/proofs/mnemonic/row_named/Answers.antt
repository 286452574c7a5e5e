use Rattle.std.proofs.Common.{sym, ◌∙◌}
use Rattle.jm_jasmin_ops.proofs.Mnemonics.{by_word_find}
use Rattle.jm_jasmin_ops.proofs.mnemonic.row_named.Goals as goal

pub returns : goal.returns
returns c = c.row_found.ensures ∙ sym (by_word_find _ _ c.args.rows.now c.args.word.now)
