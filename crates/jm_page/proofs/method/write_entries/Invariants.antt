-- What was written, and what is left to be written.
use Rattle.std.proofs.Common.{◌≡◌, ◌++◌, drop}
use Rattle.std.specs.List.{flat_map}
use Rattle.jm_page.specs.Listings.{entry_row}
use Rattle.jm_page.proofs.method.write_entries.Given as goal

abbrev pub invariant-loop-entry : goal.invariant-loop-entry
invariant-loop-entry l = l.out.items ++ flat_map entry_row (drop l.entry-index l.entries) ≡ l.initial.out.items ++ flat_map entry_row l.entries
