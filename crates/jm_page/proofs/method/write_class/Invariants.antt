-- What was written, and what is left to be written.
use Rattle.std.proofs.Common.{◌≡◌, ◌++◌, drop}
use Rattle.std.specs.List.{flat_map}
use Rattle.jm_page.specs.Listings.{method_rows}
use Rattle.jm_page.proofs.method.write_class.Given as goal

abbrev pub invariant-loop-method : goal.invariant-loop-method
invariant-loop-method l = l.out.items ++ flat_map (method_rows l.name) (drop l.method-index l.methods) ≡ l.initial.out.items ++ flat_map (method_rows l.name) l.methods
