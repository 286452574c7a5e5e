-- What was written, and what is left to be written.
use Rattle.std.proofs.Common.{◌≡◌, ◌++◌, drop}
use Rattle.std.specs.List.{flat_map}
use Rattle.jm_page.specs.Data.{text_if_changed}
use Rattle.jm_page.proofs.change.write_changed.Given as goal

abbrev pub invariant-loop-section : goal.invariant-loop-section
invariant-loop-section l = l.out.items ++ flat_map (text_if_changed l.old l.new) (drop l.section-index l.new) ≡ l.initial.out.items ++ flat_map (text_if_changed l.old l.new) l.new
