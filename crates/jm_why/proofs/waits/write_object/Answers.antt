-- The object, and who has it behind it.
use Rattle.std.proofs.Common.{◌≡◌, OnOk, subst}
use Rattle.jm_why.proofs.Joined.{awaited}
use Rattle.jm_why.proofs.waits.write_object.Goals as goal

pub returns : goal.returns
returns g c = λ w m.
    subst (λ t. OnOk c.write_owner_of.result (c.write_owner_of.new.out.bytes.items ≡ t))
    (awaited w c.args.object c.args.out.now.bytes.items _ c.in_ok-write.ensures.bytes) (c.write_owner_of.ensures w m)
