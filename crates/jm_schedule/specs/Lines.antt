-- What was read of a line, as the definitions of schedules have it.
use Rattle.std.specs.Option.{option_map}
use Rattle.jm_world.specs.Schedules as model
use Rattle.jm_schedule.specs.declared.line.Mark.{Mark}
use Rattle.jm_schedule.specs.declared.line.Line.{Line}
use Rattle.jm_schedule.specs.declared.line.Spelled.{Spelled}
use Rattle.jm_schedule.specs.declared.line.Spelled.TheVariants.{Silent, Strange, Spells}

abbrev pub mark_of : Mark → model.Mark
mark_of m = record { seat = m.seat; kind = m.kind }

abbrev pub line_of : Line → model.Line
line_of l = record { event = l.event; count = l.count; mark = option_map mark_of l.mark }

abbrev pub spelled_of : Spelled → model.Spelled
spelled_of Silent = model.silent
spelled_of Strange = model.strange
spelled_of (Spells l) = model.spells (line_of l)
