use Rattle.std.proofs.Common.{◌∙◌, ap}
use Rattle.jm_values.specs.Reach.{is_among}
use Rattle.jm_barrier.proofs.Membership.{remembered_more}
use Rattle.jm_barrier.proofs.remembered.Remembered.add.Goals as goal

pub invariant_of-self-2 : goal.invariant_of-self-2
invariant_of-self-2 c =
    rw c.in_ok-push.ensures.items (remembered_more c.self.inside.lanes.items c.make_room.new.lanes.items c.mark.new.lanes.items c.self.inside.places.items c.args.place c.self.invariant c.make_room.ensures.lanes c.make_room.ensures.same c.mark.ensures (ap (is_among c.args.place) c.self.view_is ∙ c.requires))
