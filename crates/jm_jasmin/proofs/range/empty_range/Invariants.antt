use Rattle.std.proofs.Common.{◌≡◌, drop}
use Rattle.std.specs.HashMap.{get}
use Rattle.jm_program.specs.Names.{same_text}
use Rattle.jm_jasmin.specs.Body.{empty_range}
use Rattle.jm_jasmin.proofs.range.empty_range.Given as goal

abbrev pub invariant-loop-item : goal.invariant-loop-item
invariant-loop-item l = empty_range (get same_text l.values) l.count (drop l.item-index l.items) ≡ empty_range (get same_text l.values) l.count l.items
