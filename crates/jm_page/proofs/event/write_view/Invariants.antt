-- What was written, and what is left to be written.
use Rattle.std.proofs.Common.{◌≡◌, ◌++◌, drop}
use Rattle.std.specs.List.{flat_map}
use Rattle.jm_page.specs.Data.{part_text}
use Rattle.jm_page.proofs.event.write_view.Given as goal

abbrev pub invariant-loop-section : goal.invariant-loop-section
invariant-loop-section l = l.out.items ++ flat_map part_text (drop l.section-index l.view) ≡ l.initial.out.items ++ flat_map part_text l.view
