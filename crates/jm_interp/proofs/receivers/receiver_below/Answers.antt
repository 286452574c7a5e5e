use Rattle.jm_interp.proofs.ReceiverRows.{receiver_there}
use Rattle.jm_interp.proofs.receivers.receiver_below.Goals as goal

pub returns-in-Ok-clause-value : goal.returns-in-Ok-clause-value
returns-in-Ok-clause-value c f below r stands =
    receiver_there c.args.parameters.now (c.top_method.ensures f below r stands) c.in-Ok.ensures (c.object_at.ensures.value f below r stands)
