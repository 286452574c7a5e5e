-- Not one type.
use Rattle.std.proofs.Common.{arith}
use Rattle.jm_linked.specs.PrintStreams.{printed_type}
use Rattle.jm_linker.proofs.TypeLaws.{not_one}
use Rattle.jm_linker.proofs.print_streams.is_one_printed.Goals as goal

pub returns-else-types-eq1 : goal.returns-else-types-eq1
returns-else-types-eq1 c = not_one c.args.types.now (printed_type c.args.printed) (λ e. absurd (omega (arith, e)))
