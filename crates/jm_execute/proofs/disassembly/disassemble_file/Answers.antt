-- The class, and then its text.
use Rattle.std.proofs.lemmas.Result.{err_from_is_err_and}
use Rattle.jm_execute.proofs.Disassemblies.{text_given}
use Rattle.jm_execute.proofs.disassembly.disassemble_file.Goals as goal

pub returns-in_err-class : goal.returns-in_err-class
returns-in_err-class c =
    let p = err_from_is_err_and c.from_residual.result c.from_residual.ensures.1 in
    rw (p.1, p.2) c.in_err-class.ensures

pub returns : goal.returns
returns c = text_given _ _ _ _ c.in_ok-class.ensures c.text_of.ensures.text c.text_of.ensures.memory
