use Rattle.std.proofs.Common.{◌∙◌, sym, ap}
use Rattle.std.specs.Prelude.{option_map}
use Rattle.jm_monitors.specs.Entries.{held_at}
use Rattle.jm_monitors.specs.HeldMonitors.{held_in}
use Rattle.jm_monitors.proofs.EntryLemmas.{held_is_found}
use Rattle.jm_monitors.proofs.Counted.{all_counted_at}
use Rattle.jm_monitors.proofs.monitors.Monitors.get.Goals as goal

pub returns-clause-held : goal.returns-clause-held
returns-clause-held c = ap (option_map (held_at c.args.serial)) (c.copied.ensures ∙ c.get.ensures.value) ∙ sym (held_is_found c.self.inside.held.entries c.args.serial) ∙ ap (λ hs. held_in hs c.args.serial) c.self.view_is

pub returns-clause-counted : goal.returns-clause-counted
returns-clause-counted c = all_counted_at c.self.inside.held.entries c.args.serial c.copied.result c.self.invariant.counted (c.copied.ensures ∙ c.get.ensures.value)
