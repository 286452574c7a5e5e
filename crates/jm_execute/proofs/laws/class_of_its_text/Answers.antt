-- By the cases of the verdict.
use Rattle.std.proofs.Common.{ap, ◌∙◌, sym}
use Rattle.std.specs.String.{string_bytes}
use Rattle.jm_class_format.specs.ClassFile.{class_file}
use Rattle.jm_execute.specs.ProgramFiles.{text_class}
use Rattle.jm_execute.specs.Verdicts.{verdict, assembly_verdict, bytes_in}
use Rattle.jm_execute.proofs.Assemblies.{class_of_denoted, of_denoted}
use Rattle.jm_bytes.specs.Reading.{and_then}
use Rattle.jm_execute.proofs.laws.class_of_its_text.Goals as goal

pub returns : goal.returns
unfolding verdict assembly_verdict
returns c assembly text bytes is h =
    let name = string_bytes assembly.text.name in
    let (denoted, written) = class_of_denoted name (text_class text.items) h.class bytes (ap (λ contents. and_then (bytes_in name contents) (λ bytes. of_denoted name (text_class bytes))) (sym is) ∙ h.assembles_is) in
    (h.class, denoted, written, h.spelled, class_file.complete bytes h.class h.spelled)
