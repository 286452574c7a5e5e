-- The field is sought among those of the class that is reached and of all above.
use Rattle.jm_machine.proofs.InstanceFields.{Sought}
use Rattle.jm_machine.proofs.instance_fields.instance_field.Given as goal

abbrev pub invariant-loop-left : goal.invariant-loop-left
invariant-loop-left l = Sought l.linked.program l.class l.number l.left l.at l.above

abbrev pub decreases-loop-left : goal.decreases-loop-left
decreases-loop-left l = l.left
