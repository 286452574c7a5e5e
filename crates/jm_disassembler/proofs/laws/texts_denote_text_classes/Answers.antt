use Rattle.jm_disassembler.proofs.TextClasses as proved
use Rattle.jm_disassembler.proofs.laws.texts_denote_text_classes.Goals as goal

pub returns : goal.returns
returns c = proved.texts_denote_text_classes
