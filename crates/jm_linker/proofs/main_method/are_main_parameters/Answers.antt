-- Not one type.
use Rattle.std.proofs.Common.{arith}
use Rattle.jm_world.specs.Loading.{strings_type}
use Rattle.jm_linker.proofs.TypeLaws.{not_one}
use Rattle.jm_linker.proofs.main_method.are_main_parameters.Goals as goal

pub returns-else-types-eq1 : goal.returns-else-types-eq1
returns-else-types-eq1 c = not_one c.args.types.now (strings_type) (λ e. absurd (omega (arith, e)))
