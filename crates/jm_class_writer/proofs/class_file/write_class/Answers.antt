use Rattle.std.proofs.Common.{◌≡◌, IfOk, Ok, sym, subst}
use Rattle.jm_program.specs.Fits.{Fits}
use Rattle.jm_program.specs.declared.class.ClassParts.{ClassParts}
use Rattle.jm_class_format.specs.ClassFile.{class_file}
use Rattle.jm_class_writer.proofs.Written.{read_back_given}
use Rattle.jm_class_writer.proofs.class_file.write_class.Goals as goal

pub returns-clause-read_back : goal.returns-clause-read_back
returns-clause-read_back c =
    subst (λ (p : ClassParts). IfOk c.written.result (λ v. class_file.read v.items ≡ Ok p)) c.parts.ensures.parts
    (read_back_given (λ v. v.items) c.parts.result.now c.written.result (subst Fits (sym c.parts.ensures.parts) c.parts.ensures.fits) c.written.ensures.range c.written.ensures.exact)
