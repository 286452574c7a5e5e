use Rattle.std.proofs.lemmas.Option.{IfSome_then}
use Rattle.jm_interp.proofs.ArrayStores.{no_instance, component_names}
use Rattle.jm_interp.proofs.arrays.is_held.Goals as goal

pub returns-in-Instance : goal.returns-in-Instance
returns-in-Instance c component e = absurd (no_instance c.args.linked.now.program c.in-Instance.is e)

pub returns-in_ok-element-in-Array : goal.returns-in_ok-element-in-Array
returns-in_ok-element-in-Array c =
    IfSome_then c.is_instance.result c.is_instance.ensures (λ is tells component e.
    tells component (component_names c.args.linked.now.program c.in-Array.is c.in_ok-element-in-Array.ensures e))
