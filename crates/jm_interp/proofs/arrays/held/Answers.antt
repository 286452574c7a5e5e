use Rattle.std.proofs.Common.{◌≡◌, subst, true}
use Rattle.jm_world.specs.Arrays.{serves}
use Rattle.jm_state.specs.Parts.{named_type}
use Rattle.jm_interp.proofs.Fitting.{held_as_it_is}
use Rattle.jm_interp.proofs.arrays.held.Goals as goal

pub returns-in-Int : goal.returns-in-Int
returns-in-Int c program =
    let type = named_type program c.args.id in
    held_as_it_is type c.args.value (subst (λ kind. serves kind type ≡ true) c.in-Int.is (c.requires program))
