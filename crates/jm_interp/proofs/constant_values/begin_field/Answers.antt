use Rattle.jm_interp.proofs.ConstantValues.{none_given}
use Rattle.jm_interp.proofs.constant_values.begin_field.Goals as goal

pub returns-in_default-clause-does : goal.returns-in_default-clause-does
returns-in_default-clause-does g c parts field begins = none_given c.requires.0 c.in_default.is begins
