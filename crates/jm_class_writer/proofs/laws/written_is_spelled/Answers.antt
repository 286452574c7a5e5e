use Rattle.jm_class_format.specs.ClassFile.{class_file}
use Rattle.jm_class_writer.proofs.BodyLaws.{code_law}
use Rattle.jm_class_writer.proofs.FileLaws.{written_spelled}
use Rattle.jm_class_writer.proofs.laws.written_is_spelled.Goals as goal

pub returns-clause-spelled : goal.returns-clause-spelled
returns-clause-spelled c parts bytes range fits h = written_spelled code_law parts bytes range fits h

pub returns-clause-read_back : goal.returns-clause-read_back
returns-clause-read_back c parts bytes range fits h = class_file.complete bytes parts (written_spelled code_law parts bytes range fits h)
