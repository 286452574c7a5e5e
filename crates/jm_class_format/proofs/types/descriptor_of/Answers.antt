use Rattle.std.proofs.Common.{Ok, Err}
use Rattle.jm_class_format.proofs.Descriptors.{descriptor_parsed}
use Rattle.jm_class_format.proofs.types.descriptor_of.Goals as goal

pub returns-in-Ok : goal.returns-in-Ok
returns-in-Ok c = descriptor_parsed c.args.units.now (Ok c.in-Ok.descriptor) c.in-Ok.ensures

pub returns-in-Err : goal.returns-in-Err
returns-in-Err c = rw c.from.ensures (descriptor_parsed c.args.units.now (Err c.in-Err.fault) c.in-Err.ensures)
