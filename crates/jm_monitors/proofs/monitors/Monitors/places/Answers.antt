use Rattle.std.proofs.Common.{ap, ◌∙◌}
use Rattle.std.specs.Prelude.{map, flat_map}
use Rattle.jm_monitors.specs.HeldMonitors.{held_shape}
use Rattle.jm_monitors.specs.declared.held.Held.{Held}
use Rattle.jm_monitors.proofs.Moving.{places_are_references}
use Rattle.jm_monitors.proofs.monitors.Monitors.places.Goals as goal

pub returns : goal.returns
returns c = c.new.ensures ∙ ap (map (λ (h : Held). h.place)) c.values.ensures.rest ∙ places_are_references c.self.inside.held.entries ∙ ap (flat_map held_shape.refs) c.self.view_is
