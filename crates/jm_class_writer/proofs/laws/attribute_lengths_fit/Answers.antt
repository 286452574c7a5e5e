use Rattle.jm_class_writer.proofs.LengthLaws.{constant_length, name_length, lines_length, code_length}
use Rattle.jm_class_writer.proofs.laws.attribute_lengths_fit.Goals as goal

pub returns-clause-constant_value : goal.returns-clause-constant_value
returns-clause-constant_value g value d = constant_length value d

pub returns-clause-code : goal.returns-clause-code
returns-clause-code g c d = code_length c d

pub returns-clause-line_numbers : goal.returns-clause-line_numbers
returns-clause-line_numbers g code lines d = lines_length code lines d

pub returns-clause-source_file : goal.returns-clause-source_file
returns-clause-source_file g units d = name_length units d
