-- The text is read whole, and then its names are tested.
use Rattle.jm_program.proofs.Parsing.{named, refused}
use Rattle.jm_program.proofs.descriptor.Descriptor.parse_units.Goals as goal

pub returns-in-Err : goal.returns-in-Err
returns-in-Err c = refused c.args.units.now c.in-Err.fault c.in-Err.ensures

pub returns-in-Ok : goal.returns-in-Ok
returns-in-Ok c = named c.args.units.now c.in-Ok.descriptor c.or_bad_name.result c.in-Ok.ensures c.or_bad_name.ensures
