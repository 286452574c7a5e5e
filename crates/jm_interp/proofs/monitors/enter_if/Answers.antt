use Rattle.std.proofs.Common.{sym, subst}
use Rattle.jm_values.specs.Shape.{Among}
use Rattle.jm_world.specs.Frames.{optional_number_shape}
use Rattle.jm_interp.proofs.monitors.enter_if.Goals as goal

pub enter-requires-clause-held : goal.enter-requires-clause-held
enter-requires-clause-held g c q a = c.requires.held q (subst (λ o. Among q (optional_number_shape.refs o)) (sym c.in-Some.is) a)
