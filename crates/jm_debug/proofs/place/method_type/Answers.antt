-- What was parsed.
use Rattle.jm_debug.proofs.MethodTypes.{of_a_method, of_a_field, of_no_shape, of_a_bad_name}
use Rattle.jm_debug.proofs.place.method_type.Goals as goal

pub returns-in-Ok-Method : goal.returns-in-Ok-Method
returns-in-Ok-Method c = of_a_method c.args.units.now c.in-Ok-Method.field-0 c.in-Ok-Method.descriptor c.in-Ok-Method.ensures c.in-Ok-Method.field-0-is

pub returns-in-Ok-Field : goal.returns-in-Ok-Field
returns-in-Ok-Field c = of_a_field c.args.units.now c.in-Ok-Field.field-0 c.in-Ok-Field.field-0-0 c.in-Ok-Field.ensures c.in-Ok-Field.field-0-is

pub returns-in-Err-BadDescriptor : goal.returns-in-Err-BadDescriptor
returns-in-Err-BadDescriptor c = of_no_shape c.args.units.now c.in-Err-BadDescriptor.field-0 c.in-Err-BadDescriptor.ensures c.in-Err-BadDescriptor.field-0-is

pub returns-in-Err-BadName : goal.returns-in-Err-BadName
returns-in-Err-BadName c = of_a_bad_name c.args.units.now c.in-Err-BadName.field-0 c.in-Err-BadName.ensures c.in-Err-BadName.field-0-is
